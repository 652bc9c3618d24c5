-- How a plot looks.
use Rattle.std.specs.Prelude.{[], ◌∷◌, codes}
use Rattle.std.specs.List.{concat}
use Rattle.oct_text.specs.Words.{Text}

-- a plot, by day and by night; points are larger where there are few
abbrev pub plot_style : Text
plot_style = concat (
    codes ".plot{background:#fff;color:#222;font:18px system-ui,sans-serif}"
    ∷ codes ".plot text{fill:currentColor;text-anchor:middle}"
    ∷ codes ".plot .title{text-anchor:start}"
    ∷ codes ".plot .value{text-anchor:end}"
    ∷ codes ".plot path{fill:none;stroke:currentColor}"
    ∷ codes ".plot .points{stroke:none;stroke-width:5}"
    ∷ codes ".plot .few{stroke-width:10}"
    ∷ codes ".plot .dot{fill:#0b5cad}"
    ∷ codes ".plot .period{fill:#e0a000;fill-opacity:.3}"
    ∷ codes ".plot .again{fill:#e0a000;fill-opacity:.12}"
    ∷ codes ".plot .start{stroke:#a86400;stroke-dasharray:6 4}"
    ∷ codes "@media(prefers-color-scheme:dark){.plot{background:#14171c;color:#ddd}.plot .dot{fill:#7cc0ff}.plot .start{stroke:#f0b840}}"
    ∷ [])
