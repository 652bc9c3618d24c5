-- What the two sides of a session come to.
use Rattle.std.specs.Prelude.{◌≡◌, true, take}
use Rattle.std.specs.FinMap as finmap
use Rattle.oct_delta.specs.Text.{Bytes}
use Rattle.oct_join.specs.Clock.{Clock, entries}
use Rattle.oct_ops.specs.Body.{Operation}
use Rattle.oct_ops.specs.Operations.{Operations, contains, listed, union}
use Rattle.oct_store.specs.Summary.{clock_of, beyond}
use Rattle.oct_record.specs.Valid.{AreValid}
use Rattle.oct_sync.specs.Driven.{after}
use Rattle.oct_sync.specs.Session.{IsDone, max_authors, said}
use Rattle.oct_sync.specs.declared.role.Role.{Role}
use Rattle.oct_sync.specs.declared.role.Role.TheVariants.{Client, ClientOfAll, Giver, Server}

abbrev pub other_role : Role → Role
other_role Client = Server
other_role ClientOfAll = Server
other_role Giver = Server
other_role Server = Client

-- the clock that is sent of a set: its first authors
abbrev pub sent_clock : Operations → Clock
sent_clock held = finmap.from_entries (take max_authors (entries (clock_of (listed held))))

-- the bytes that came to a side are those that the other side, which held this set, sends for what the side sent
abbrev pub IsAnsweredBy : Operations → Role → Operations → Bytes → Type 0
IsAnsweredBy others role held bytes = bytes ≡ (after (other_role role) others (after role held bytes).sent).sent

-- a side that takes in what comes
abbrev pub TakesIn : Role → Type 0
TakesIn Client = Unit {0}
TakesIn ClientOfAll = Unit {0}
TakesIn Giver = ⊥
TakesIn Server = Unit {0}

-- the session is done, and what the clock that was sent does not cover came from the other side
pub record TakesMissing (others : Operations) (role : Role) (held : Operations) (bytes : Bytes) : Type 0 where
  pub done : (after role held bytes).phase ≡ IsDone
  pub held_is : (after role held bytes).held ≡ union held (beyond others (sent_clock (said role held)))

abbrev pub EachTakesMissing : Type 0
EachTakesMissing = (others : Operations) (role : Role) (held : Operations) (bytes : Bytes) → TakesIn role → AreValid others → AreValid held → IsAnsweredBy others role held bytes → TakesMissing others role held bytes

-- no dot has two contents
abbrev pub HasNoForks : Operations → Type 0
HasNoForks ops = (o p : Operation) → contains ops o ≡ true → contains ops p ≡ true → o.dot ≡ p.dot → o ≡ p

-- each side that takes in what comes ends with all that both held
abbrev pub EachHoldsAll : Type 0
EachHoldsAll = (others : Operations) (role : Role) (held : Operations) (bytes : Bytes) → TakesIn role → AreValid others → AreValid held → HasNoForks (union held others) →
    IsAnsweredBy others role held bytes → (after role held bytes).held ≡ union held others

-- whatever the two sides hold, there is such a session
abbrev pub EachIsAnswered : Type 0
EachIsAnswered = (others : Operations) (role : Role) (held : Operations) → AreValid others → AreValid held → (bytes : Bytes) × IsAnsweredBy others role held bytes

-- ---- a client that sends all

-- the bytes that came to a client that sends all, and to its server: to each came what the other one sends, by what it held and what came to it
pub record IsExchangeOfAll (client server : Operations) (to_client to_server : Bytes) : Type 0 where
  pub to_client_is : to_client ≡ (after Server server to_server).sent
  pub to_server_is : to_server ≡ (after ClientOfAll client to_client).sent

-- the session is done, and these are held
pub record EndsWith (all : Operations) (role : Role) (held : Operations) (bytes : Bytes) : Type 0 where
  pub done : (after role held bytes).phase ≡ IsDone
  pub held_is : (after role held bytes).held ≡ all

-- both sides end with all that either held, also where a dot has two contents
abbrev pub BothEndWithAll : Type 0
BothEndWithAll = (client server : Operations) (to_client to_server : Bytes) → AreValid client → AreValid server → IsExchangeOfAll client server to_client to_server →
    EndsWith (union client server) ClientOfAll client to_client × EndsWith (union client server) Server server to_server

-- whatever the two sides hold, there is such an exchange
abbrev pub AllIsExchanged : Type 0
AllIsExchanged = (client server : Operations) → AreValid client → AreValid server → (to_client : Bytes) × (to_server : Bytes) × IsExchangeOfAll client server to_client to_server

-- ---- a side that gives

-- the bytes that came to a giver and to its server: to each came what the other one sends, by what it held and what came to it
pub record IsGift (giver server : Operations) (to_giver to_server : Bytes) : Type 0 where
  pub to_giver_is : to_giver ≡ (after Server server to_server).sent
  pub to_server_is : to_server ≡ (after Giver giver to_giver).sent

-- the giver ends with what it held, and the server with that too which its clock did not cover
abbrev pub ServerTakesMissing : Type 0
ServerTakesMissing = (giver server : Operations) (to_giver to_server : Bytes) → AreValid giver → AreValid server → IsGift giver server to_giver to_server →
    EndsWith giver Giver giver to_giver × EndsWith (union server (beyond giver (sent_clock server))) Server server to_server

-- the server ends with all that either held
abbrev pub ServerEndsWithAll : Type 0
ServerEndsWithAll = (giver server : Operations) (to_giver to_server : Bytes) → AreValid giver → AreValid server → HasNoForks (union giver server) → IsGift giver server to_giver to_server →
    EndsWith (union giver server) Server server to_server

-- whatever the two sides hold, there is such an exchange
abbrev pub GiftIsExchanged : Type 0
GiftIsExchanged = (giver server : Operations) → AreValid giver → AreValid server → (to_giver : Bytes) × (to_server : Bytes) × IsGift giver server to_giver to_server
