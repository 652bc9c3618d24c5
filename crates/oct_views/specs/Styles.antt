-- How a report and a site look.
use Rattle.std.specs.Prelude.{[], ◌∷◌, codes}
use Rattle.std.specs.List.{concat}
use Rattle.oct_text.specs.Words.{Text}

-- by day and by night, on narrow screens and on paper; a table that is wider than the window scrolls by itself, and its first column stays and breaks its lines. A row
-- of which something is refuted has a line before it and bold numbers, for who sees no colours
abbrev pub html_style : Text
html_style = concat (
    codes ":root{color-scheme:light dark}"
    ∷ codes "body{margin:0 auto;max-width:72rem;padding:1rem;font:1rem/1.5 system-ui,sans-serif;background:#fff;color:#222}"
    ∷ codes "h1{font-size:1.6rem}"
    ∷ codes "a{color:#0b5cad}"
    ∷ codes "nav a{margin-right:1rem}"
    ∷ codes ".scroll{overflow-x:auto;margin:1rem 0}"
    ∷ codes "table{border-spacing:0}"
    ∷ codes "caption{max-width:85vw;text-align:left;font-weight:600}"
    ∷ codes "th,td{border-bottom:1px solid #ccc;padding:3px .6rem;text-align:right;vertical-align:top;white-space:nowrap;font-variant-numeric:tabular-nums}"
    ∷ codes "th:first-child{position:sticky;left:0;text-align:left;background:#fff;white-space:normal}"
    ∷ codes ".text{text-align:left;white-space:normal;overflow-wrap:anywhere;min-width:12rem}"
    ∷ codes ".values th,.values td{padding:2px .4rem;text-align:left}"
    ∷ codes ".values td{white-space:pre;font-family:ui-monospace,monospace}"
    ∷ codes "mark{background:#f8e7bf;color:inherit}"
    ∷ codes ".refuted th{border-left:4px solid #b3261e}"
    ∷ codes ".refuted td{font-weight:600}"
    ∷ codes ".name{font-weight:400;white-space:normal}"
    ∷ codes "figure{margin:1rem 0}"
    ∷ codes "svg,img{display:block;width:100%;height:auto}"
    ∷ codes "@media(max-width:40rem){body{padding:.5rem}th,td{padding:3px .3rem;white-space:normal}}"
    ∷ codes "@media(prefers-color-scheme:dark){body,th:first-child{background:#14171c;color:#ddd}th,td{border-color:#444}a{color:#7cc0ff}mark{background:#4a3a10}.refuted th{border-left-color:#ff8a80}}"
    ∷ codes "@media print{body{max-width:none;padding:0}nav{display:none}.scroll{overflow:visible}th:first-child{position:static}section{break-before:page}figure,tr{break-inside:avoid}}"
    ∷ [])
