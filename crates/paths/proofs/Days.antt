-- Whether a day is a change day, at each way of finding it.
use mathlib.Core.Path.{◌≡◌, sym, ◌∙◌}
use mathlib.Core.Bool.{Bool, true, false, ◌&&◌, ◌||◌}
use mathlib.Core.List.{List}
use Prim.Native.Nat.{ℕ, ◌≤◌, ◌<◌}
use native.Mathlib.Omega.{arith}
use lib.Dec.{eqb}
use lib.ListN.{length, get_or}
use borrow.Author.Tests.{eq-eqb, ne_eqb}
use Rattle.meaning.specs.declared.Rule.{Rule}
use Rattle.meaning.specs.Document.{Doc}
use Rattle.meaning.specs.Select.{reads}
use Rattle.meaning.specs.Day.{turns, is_change}
use Rattle.meaning.proofs.Basics.{or_r}
use Rattle.meaning.proofs.Walks.{any_some, any_none}
use Rattle.columns.specs.Lent.{Periods}
use Rattle.marks.specs.Marks.{marked, Marks}

-- record j is read, and begins or ends on day d, as the columns have it
abbrev pub turning : List ℕ → List ℕ → List ℕ → ℕ → ℕ → Bool
turning read begins ends d j = marked read j && (eqb (get_or begins j 0) d || eqb (get_or ends j 0) d)

module _ (read begins ends : List ℕ) (d : ℕ) (doc : Doc) (q r : Rule) (t : Periods doc begins ends) (m : Marks (reads doc q r) doc.size read)
    (first : ℕ) (e : r.begin ≡ first) where
  abbrev changing : ℕ → Bool
  changing j = reads doc q r j && turns doc d j

  same : (j : ℕ) → j < doc.size → turning read begins ends d j ≡ changing j
  same j h = rw (m.mark j h, t.begin.at j, t.end.at j)

  pub change_first : first ≡ d → true ≡ is_change doc q r d
  unfolding is_change
  change_first y = rw (eq-eqb r.begin d (e ∙ y))

  pub change_turn : (i : ℕ) → i < length begins → turning read begins ends d i ≡ true → true ≡ is_change doc q r d
  unfolding is_change
  change_turn i h y =
      let l : i < doc.size = omega (arith, t.begin.size) in
      sym (or_r (eqb r.begin d) _ (any_some changing 0 doc.size i (record { from = omega arith; below = omega arith; passes = sym (same i l) ∙ y })))

  pub change_none : (first ≡ d → ⊥) → (i : ℕ) → length begins ≤ i → ((j : ℕ) → j < i → turning read begins ends d j ≡ false) → false ≡ is_change doc q r d
  unfolding is_change
  change_none n i h z =
      rw (ne_eqb r.begin d (λ y. n (sym e ∙ y)))
      (sym (any_none changing 0 doc.size (λ j a b. let l : j < doc.size = omega arith in sym (same j l) ∙ z j (omega (arith, t.begin.size)))))
