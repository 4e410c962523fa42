-- What is lent to a look at the rows of a rule: which records are present, what they stand for, and when the lists are those of a rule.
use Rattle.std.specs.Prelude.{◌≡◌, Bool, ◌&&◌, List, ℕ, ltb, length, get_or}
use Rattle.meaning.specs.declared.Rule.{Rule}
use Rattle.meaning.specs.Document.{Doc}
use Rattle.day.specs.declared.lent.Trail.{Trail}
use Rattle.day.specs.declared.lent.Stretch.{Stretch}
use Rattle.day.specs.Ready.{Ready, Referred}

-- these are the lists that are lent
pub record LentBy (start : ℕ) (next last lower : List ℕ) (t : Trail) : Type 0 where
  pub start_is : t.start ≡ start
  pub next_is : t.next.now ≡ next
  pub last_is : t.last.now ≡ last
  pub lower_is : t.lower.now ≡ lower

-- the period of record i, begin to end, shares a day with the stretch from..to
abbrev pub during : List ℕ → List ℕ → ℕ → ℕ → ℕ → Bool
during begins ends from to i = ltb (get_or begins i 0) to && ltb from (get_or ends i 0)

-- how many records there are, which of them are there in a stretch, and what represents the value of each
abbrev pub size : Stretch → ℕ
size s = length s.begin.now

abbrev pub there : Stretch → ℕ → Bool
there s = during s.begin.now s.end.now s.from s.to

abbrev pub stands : Stretch → ℕ → ℕ
stands s f = get_or s.rep.now f 0

-- the rows of a rule, with the columns that are read along them
abbrev pub ReadyAlong : Doc → Rule → Trail → Stretch → Type 0
ReadyAlong doc r t s = Ready doc r t.start t.next.now t.last.now t.lower.now s.begin.now s.end.now s.rep.now

-- those of the rule that a reference refers to
abbrev pub ReferredAlong : Doc → Rule → Trail → Stretch → Type 0
ReferredAlong doc q t s = Referred doc q t.start t.next.now t.last.now t.lower.now s.begin.now s.end.now s.rep.now
