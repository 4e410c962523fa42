-- Then days, with what the passes are given as it is lent.
use Rattle.std.specs.Prelude.{ℕ, List}
use Rattle.twins.specs.declared.days.Classes.{Classes}
use Rattle.twins.specs.Apart.{Held, Follows, Apart}

abbrev pub HeldBy : Classes → ℕ → Type 0
HeldBy of m = Held of.records.kind.now of.records.parent.now of.records.begin.now of.records.end.now of.class.now m

abbrev pub FollowsBy : Classes → ℕ → ℕ → List ℕ → List ℕ → Type 0
FollowsBy of m v = Follows of.records.kind.now of.records.parent.now of.records.begin.now of.records.end.now of.class.now m v

abbrev pub ApartBy : Classes → ℕ → Type 0
ApartBy of m = Apart of.records.kind.now of.records.parent.now of.records.begin.now of.records.end.now of.class.now m
