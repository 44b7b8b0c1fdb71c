-- A pair's place in the order stands for its key: the scores compare as greedy's definition compares keys. Assumes nothing.
use Rattle.std.specs.Prelude.{◌≡◌, ◌+◌, ◌^◌}
use Rattle.spec.specs.Greedy.{Key}
use Rattle.tables.specs.declared.Score.{Score}

pub record Scores (k : Key) (s : Score) : Type 0 where
  pub raised : s.raised + k.takes ≡ k.makes + 2 ^ 41
  pub first : s.first ≡ k.first
  pub second : s.second ≡ k.second
