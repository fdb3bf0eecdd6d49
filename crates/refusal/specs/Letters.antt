-- The letter of each layer: F, H, S, L.
use Rattle.std.specs.Prelude.{ℕ}
use Rattle.refusal.specs.declared.Layer.{Layer}
use Rattle.refusal.specs.declared.Layer.TheVariants.{Family, Holder, Store, Line}

abbrev pub layer_letter : Layer → ℕ
layer_letter Family = 70
layer_letter Holder = 72
layer_letter Store = 83
layer_letter Line = 76
