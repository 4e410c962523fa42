-- A name looked up line by line: what the lines that are left to look at say, and each way in which the next one is passed.
use mathlib.Core.Path.{◌≡◌, refl, sym, ap, ◌∙◌}
use mathlib.Core.Bool.{true, false}
use mathlib.Core.List.{List, [], ◌∷◌}
use Prim.Native.Nat.{ℕ, zero, suc, ◌-◌, ◌≤◌, ◌<◌}
use native.Mathlib.Omega.{arith}
use lib.ListN.{length, take, drop}
use Rattle.meaning.proofs.Basics.{clear, and_l, and_r}
use Rattle.std.specs.Prelude.{Some, None}
use Rattle.selectors.specs.declared.dictionary.Entry.{Entry}
use Rattle.selectors.specs.Parts.{up_to, later, parts, each, same}
use Rattle.selectors.specs.Dictionary.{is_entry, name_of, number_in}
use Rattle.selectors.specs.Lining.{line_at, Entries}
use Rattle.selectors.proofs.Lines.{line_read, line-bad}

-- from place `at` on `left` lines are left, all entries, and the number that they give a name is `answer`
pub record Left (d name : List ℕ) (at left answer : ℕ) : Type 0 where
  pub many : left ≤ length (later 10 (drop at d))
  pub sound : each is_entry (take left (parts 10 (drop at d))) ≡ true
  pub gives : number_in (take left (parts 10 (drop at d))) name ≡ answer

-- at first all are left
pub left-all : (d name : List ℕ) (n : ℕ) → Entries d n → Left d name 0 n (number_in (take n (parts 10 d)) name)
left-all d name n e = record { many = e.many; sound = e.sound; gives = refl }

-- where none is left the name has no number
pub left-none : {d name : List ℕ} {at left answer : ℕ} → Left d name at left answer → left ≤ 0 → 0 ≡ answer
unfolding number_in
left-none {left = zero} l none = l.gives
left-none {left = suc n} l none = absurd (omega arith)

-- the next line that is left is an entry
left-next : {d name : List ℕ} {at left answer : ℕ} → Left d name at left answer → 0 < left → is_entry (up_to 10 (drop at d)) ≡ true
unfolding each
left-next {left = zero} l some = absurd (omega arith)
left-next {d} {at = at} {left = suc n} l some = and_l (is_entry (up_to 10 (drop at d))) (each is_entry (take n (later 10 (drop at d)))) l.sound

-- so it is not read as a bad one
pub left-bad : {d name : List ℕ} {at left answer : ℕ} → Left d name at left answer → 0 < left → line_at d at ≡ None → ⊥
left-bad {d} {at = at} l some bad = go (later 10 (drop at d)) refl
  where
    go : (ls : List (List ℕ)) → later 10 (drop at d) ≡ ls → ⊥
    go [] q = omega (arith, l.many, ap length q)
    go (x ∷ ls) q = clear (left-next l some) (line-bad d at bad q)

-- a line of the name gives its number
pub left-hit :
    {d name : List ℕ} {at left answer : ℕ} {line : Entry} → Left d name at left answer → 0 < left → line_at d at ≡ Some line → same (take (line.end - at) (drop at d)) name ≡ true
    → line.number ≡ answer
unfolding number_in
left-hit {left = zero} l some read t = absurd (omega arith)
left-hit {d} {name} {at} {left = suc n} l some read t =
    let r = line_read d at read in
    let hit : same (name_of (up_to 10 (drop at d))) name ≡ true = rw r.name at t in
    sym r.number ∙ rw hit at l.gives

-- a line of another name leaves the lines behind it
pub left-on :
    {d name : List ℕ} {at left answer : ℕ} {line : Entry} → Left d name at left answer → 0 < left → line_at d at ≡ Some line → same (take (line.end - at) (drop at d)) name ≡ false
    → Left d name line.next (left - 1) answer
unfolding number_in each
left-on {left = zero} l some read t = absurd (omega arith)
left-on {d} {name} {at} {left = suc n} {line = line} l some read t =
    let next = line.next in
    let r = line_read d at read in
    let miss : same (name_of (up_to 10 (drop at d))) name ≡ false = rw r.name at t in
    let one : suc n - 1 ≡ n = omega arith in
    let behind : take (suc n - 1) (parts 10 (drop next d)) ≡ take n (later 10 (drop at d)) = rw one (ap (take n) r.rest) in
    record {
      many = omega (arith, l.many, ap length r.rest);
      sound = ap (each is_entry) behind ∙ and_r (is_entry (up_to 10 (drop at d))) (each is_entry (take n (later 10 (drop at d)))) l.sound;
      gives = ap (λ ls. number_in ls name) behind ∙ rw miss at l.gives;
    }
