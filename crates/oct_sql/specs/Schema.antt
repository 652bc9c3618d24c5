-- What stands before and behind the rows.
use Rattle.std.specs.Prelude.{[], ◌∷◌, codes}
use Rattle.std.specs.List.{concat}
use Rattle.oct_text.specs.Words.{Text}

-- what makes the tables anew. A table is dropped before those that it refers to, and made behind them
abbrev pub opening : Text
opening = concat (
    codes "-- A table of nim-values, by census: docs/DATABASE.md says what its tables have.\n"
    ∷ codes "BEGIN;\n"
    ∷ codes "DROP VIEW IF EXISTS log;\n"
    ∷ codes "DROP TABLE IF EXISTS forks;\n"
    ∷ codes "DROP TABLE IF EXISTS notes;\n"
    ∷ codes "DROP TABLE IF EXISTS operations;\n"
    ∷ codes "DROP TABLE IF EXISTS claims;\n"
    ∷ codes "DROP TABLE IF EXISTS blocks;\n"
    ∷ codes "DROP TABLE IF EXISTS game_values;\n"
    ∷ codes "DROP TABLE IF EXISTS games;\n"
    ∷ codes "DROP TABLE IF EXISTS authors;\n"
    ∷ codes "CREATE TABLE authors(author INTEGER PRIMARY KEY, name TEXT, through INTEGER NOT NULL, last INTEGER NOT NULL);\n"
    ∷ codes "CREATE TABLE games(code TEXT PRIMARY KEY, known INTEGER NOT NULL, period INTEGER, start INTEGER, claimed INTEGER);\n"
    ∷ codes "CREATE TABLE game_values(code TEXT NOT NULL REFERENCES games, heap INTEGER NOT NULL, value INTEGER NOT NULL, PRIMARY KEY(code, heap)) WITHOUT ROWID;\n"
    ∷ codes "CREATE TABLE blocks(place INTEGER PRIMARY KEY, author INTEGER NOT NULL REFERENCES authors, number INTEGER NOT NULL, code TEXT NOT NULL REFERENCES games, start INTEGER NOT NULL, count INTEGER NOT NULL, status TEXT NOT NULL, heap INTEGER, claimed INTEGER, truth INTEGER);\n"
    ∷ codes "CREATE TABLE claims(place INTEGER PRIMARY KEY, author INTEGER NOT NULL REFERENCES authors, number INTEGER NOT NULL, code TEXT NOT NULL REFERENCES games, start INTEGER NOT NULL, period INTEGER NOT NULL, status TEXT NOT NULL, heap INTEGER, needs INTEGER);\n"
    ∷ codes "CREATE TABLE operations(place INTEGER PRIMARY KEY, author INTEGER NOT NULL REFERENCES authors, number INTEGER NOT NULL, kind TEXT NOT NULL, code TEXT REFERENCES games, said TEXT NOT NULL);\n"
    ∷ codes "CREATE TABLE notes(place INTEGER PRIMARY KEY, author INTEGER NOT NULL REFERENCES authors, number INTEGER NOT NULL, name TEXT NOT NULL, text TEXT NOT NULL);\n"
    ∷ codes "CREATE TABLE forks(author INTEGER NOT NULL REFERENCES authors, number INTEGER NOT NULL, contents INTEGER NOT NULL, PRIMARY KEY(author, number)) WITHOUT ROWID;\n"
    ∷ codes "CREATE VIEW log AS SELECT author || '.' || number || coalesce(' (' || name || ')', '') || ' ' || said AS line FROM operations JOIN authors USING (author) ORDER BY place;\n"
    ∷ [])

-- what makes the indexes, and ends
abbrev pub ending : Text
ending = concat (
    codes "CREATE INDEX games_by_period ON games(period);\n"
    ∷ codes "CREATE INDEX blocks_by_game ON blocks(code, start);\n"
    ∷ codes "CREATE INDEX blocks_by_author ON blocks(author, number);\n"
    ∷ codes "CREATE INDEX claims_by_game ON claims(code, start);\n"
    ∷ codes "CREATE INDEX claims_by_author ON claims(author, number);\n"
    ∷ codes "CREATE INDEX operations_by_author ON operations(author, number);\n"
    ∷ codes "CREATE INDEX operations_by_game ON operations(code);\n"
    ∷ codes "CREATE INDEX notes_by_author ON notes(author, number);\n"
    ∷ codes "CREATE INDEX notes_by_name ON notes(name);\n"
    ∷ codes "COMMIT;\n"
    ∷ [])
