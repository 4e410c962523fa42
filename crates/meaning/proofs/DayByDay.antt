-- The verdict over every day, from a walk over the days in their order: where none before it has an offender, the first that has one is a change day, and its count is how many there are up to it.
use mathlib.Core.Path.{◌≡◌, sym, ap, ◌∙◌}
use mathlib.Core.Logic.{⊎_elim, inl}
use mathlib.Core.Bool.{Bool, true, false}
use Prim.Native.Nat.{ℕ, zero, suc, ◌+◌, ◌-◌, ◌≤◌, ◌<◌}
use native.Mathlib.Omega.{arith}
use lib.ListN.{length}
use Rattle.std.specs.Prelude.{Some, None}
use Rattle.meaning.specs.declared.Verdict.TheVariants.{Holds, Fails}
use Rattle.meaning.specs.declared.Rule.{Rule}
use Rattle.meaning.specs.Walk.{pick, found, place}
use Rattle.meaning.specs.Document.{Doc}
use Rattle.meaning.specs.Day.{offender, is_change, change_days, first_failing, on_days}
use Rattle.meaning.proofs.Basics.{went, le_or_lt}
use Rattle.meaning.proofs.Walks.{first-none, first-at}
use Rattle.meaning.proofs.Picks.{pick_yes, pick_no}
use Rattle.meaning.proofs.Slices.{PresentAlive}
use Rattle.meaning.proofs.Over.{place-first, place-next}
use Rattle.meaning.proofs.Quiet.{same-as_before}
use Rattle.meaning.proofs.Changes.{why_change}

-- the place of a number picked is how many are picked up to it
first-picked : (c : ℕ → Bool) (n b : ℕ) → c b ≡ true → place b (pick c b (suc n)) ≡ length (pick c b 1)
unfolding pick
first-picked c n b t = rw t (place-first b (pick c (suc b) n))

place-picked : (c : ℕ → Bool) (m n b : ℕ) → m < n → c (b + m) ≡ true → place (b + m) (pick c b n) ≡ length (pick c b (suc m))
place-picked c m zero b h e = absurd (omega arith)
place-picked c zero (suc n) b h e =
    let z : b + 0 ≡ b = omega arith in
    rw z (first-picked c n b (ap c (sym z) ∙ e))
place-picked c (suc m) (suc n) b h e =
    let z : b + suc m ≡ suc b + m = omega arith in
    let rest = place-picked c m n (suc b) (omega arith) (ap c (sym z) ∙ e) in
    rw z
    (⊎_elim
    (λ t. rw (pick_yes c b n t, pick_yes c b (suc m) t) (place-next (suc b + m) b (pick c (suc b) n) (λ p. omega arith) ∙ ap suc rest))
    (λ t. rw (pick_no c b n t, pick_no c b (suc m) t) rest)
    (went (c b)))

-- the verdict by the first failing day
days_fail : (doc : Doc) (q r : Rule) (d v : ℕ) → first_failing doc q r ≡ Some d → offender doc q r d ≡ Some v → Fails d v (place d (change_days doc q r)) ≡ on_days doc q r
unfolding on_days
days_fail doc q r d v p e = rw (p, e)

days_hold : (doc : Doc) (q r : Rule) → first_failing doc q r ≡ None → Holds (length (change_days doc q r)) ≡ on_days doc q r
unfolding on_days
days_hold doc q r p = rw p

-- the first j days of the period have no offender
module _ (doc : Doc) (q r : Rule) (alive : PresentAlive doc) (j : ℕ) (none : (i : ℕ) → i < j → offender doc q r (r.begin + i) ≡ None) where
  not_found : (d : ℕ) → r.begin ≤ d → d < r.begin + j → found (offender doc q r d) ≡ false
  not_found d a b =
      let e : d ≡ r.begin + (d - r.begin) = omega arith in
      rw (e, none (d - r.begin) (omega arith))

  -- a day with an offender, none coming before it, is a change day
  turns-here : {v : ℕ} → offender doc q r (r.begin + j) ≡ Some v → is_change doc q r (r.begin + j) ≡ true
  turns-here {v} e =
      ⊎_elim
      (λ l. why_change doc q r (r.begin + j) (inl (omega arith)))
      (λ l. ⊎_elim (λ y. y) (λ n. absurd (like_before l n)) (went (is_change doc q r (r.begin + j))))
      (le_or_lt j 0)
    where
      like_before : 0 < j → is_change doc q r (r.begin + j) ≡ false → ⊥
      like_before l n =
          let s : r.begin + j ≡ suc (r.begin + (j - 1)) = omega arith in
          let same = same-as_before doc alive q r (r.begin + (j - 1)) (omega arith) (ap (is_change doc q r) (sym s) ∙ n) in
          let before = none (j - 1) (omega arith) in
          let here = ap (offender doc q r) (sym s) ∙ e in
          let z : ◌≡◌ {A = ℕ} 0 1 = cc in
          omega arith

  -- the next one has: the rule fails there, with the change days up to it
  pub fails_at : r.begin + j < r.end → {v : ℕ} → offender doc q r (r.begin + j) ≡ Some v
      → Fails (r.begin + j) v (length (pick (is_change doc q r) r.begin (suc j))) ≡ on_days doc q r
  unfolding first_failing change_days
  fails_at h {v} here =
      let day = r.begin + j in
      ap (Fails day v) (sym (place-picked (is_change doc q r) j (r.end - r.begin) r.begin (omega arith) (turns-here here)))
      ∙ days_fail doc q r day v (first-at (λ d. found (offender doc q r d)) day r.begin (r.end - r.begin) (omega arith) (omega arith) (rw here) not_found) here

  -- they are all: the rule holds
  pub holds_at : r.end ≤ r.begin + j → Holds (length (change_days doc q r)) ≡ on_days doc q r
  unfolding first_failing
  holds_at h =
      days_hold doc q r
      (first-none (λ d. found (offender doc q r d)) r.begin (r.end - r.begin) (λ d a b. not_found d a (omega arith)))
