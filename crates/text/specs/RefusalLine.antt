-- The line that says a refusal.
use Rattle.std.specs.Prelude.{ℕ, List, ◌∷◌, ◌++◌, codes, decimal}
use Rattle.refusal.specs.declared.Refusal.{Refusal}
use Rattle.refusal.specs.Letters.{layer_letter}

-- "no ", the number, the letter of the layer and the place, with a space between each two
abbrev pub refusal_line : Refusal → List ℕ
refusal_line refusal =
    codes "no " ++ decimal refusal.number ++ (codes " " ++ (layer_letter refusal.layer ∷ codes " "))
    ++ decimal refusal.place
