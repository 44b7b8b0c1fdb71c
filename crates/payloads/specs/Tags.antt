-- The tags of fields by their numbers. Assumes nothing.
use Rattle.std.specs.Prelude.{◌≡◌, ℕ, Result, Ok, Err}
use Rattle.spec.specs.declared.Refusal.{Refusal}
use Rattle.spec.specs.declared.Refusal.TheVariants.{WrongTag}
use Rattle.payloads.specs.declared.tags.Tag.{Tag}
use Rattle.payloads.specs.declared.tags.Tag.TheVariants.{Weights, Leaf, Outputs, Tree, Flags, Target}

abbrev pub tag_number : Tag → ℕ
tag_number Weights = 1
tag_number Leaf = 2
tag_number Outputs = 3
tag_number Tree = 4
tag_number Flags = 5
tag_number Target = 6

-- the tag that a byte is read as
abbrev pub NamesTag : ℕ → Result Tag Refusal → Type 0
NamesTag byte (Ok tag) = byte ≡ tag_number tag
NamesTag byte (Err r) = (r ≡ WrongTag) × ((tag : Tag) → byte ≡ tag_number tag → ⊥)
