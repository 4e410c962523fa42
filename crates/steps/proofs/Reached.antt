-- What is wrong for a field version, by the row that it is in: nothing without a row, a value that is no number, a number that some other jumps to.
use mathlib.Core.Path.{◌≡◌, refl, sym, ◌∙◌}
use mathlib.Core.Bool.{true, false, ◌&&◌}
use mathlib.Core.List.{List}
use Prim.Native.Nat.{ℕ, ◌≤◌, ◌<◌}
use native.Mathlib.Omega.{arith}
use lib.Dec.{ltb, eqb}
use lib.ListN.{length, get_or}
use borrow.Author.Tests.{lt-ltb, le-ltb, eq-eqb, ne_eqb}
use Rattle.meaning.specs.declared.Rule.{Rule}
use Rattle.meaning.specs.Walk.{any}
use Rattle.meaning.specs.Document.{Doc, number_of}
use Rattle.meaning.specs.Select.{selected, is_number}
use Rattle.meaning.specs.Window.{jumps}
use Rattle.meaning.proofs.Basics.{tests_same, and_l, and_r}
use Rattle.meaning.proofs.Walks.{any_none, any_some, any-true}
use Rattle.meaning.proofs.Says.{says}
use Rattle.columns.specs.Lent.{Lends}
use Rattle.prepare.specs.Rows.{in_row}
use Rattle.prepare.specs.Keys.{Keys}
use Rattle.steps.specs.Reaching.{always, wrong_under, wrong_after}
use Rattle.steps.proofs.Grouping.{row-selected}

-- a record f, whose key is v
module _ (doc : Doc) (r : Rule) (vkinds keys : List ℕ) (kind : Lends doc.size doc.vkind 0 vkinds) (rows : Keys doc r keys)
    (f : ℕ) (in-doc : f < length vkinds) (v : ℕ) (is : v ≡ get_or keys f 0) where
  -- the row of f is that of v
  row_is : (u : ℕ) → u < doc.size → in_row doc r u f ≡ eqb v u
  row_is u h = rw is (sym (rows.key u f h (omega (arith, kind.size))))

  pub reach-none : length vkinds ≤ v → (a : ℕ) → ltb a 0 ≡ wrong_after doc r f a
  unfolding wrong_after
  reach-none h a =
      le-ltb a 0 (omega arith)
      ∙ sym (any_none _ 0 doc.size (λ u _ l. rw (row_is u (omega arith) ∙ ne_eqb v u (λ e. omega (arith, kind.size)))))

  module _ (h : v < length vkinds) where
    mine : in_row doc r v f ≡ true
    mine = row_is v (omega (arith, kind.size)) ∙ eq-eqb v v refl

    pub chosen : selected doc r v ≡ true
    chosen = row-selected doc r v f mine

    -- what is wrong is so under the item number of v
    wrong-own : (a : ℕ) → wrong_after doc r f a ≡ wrong_under doc r f a (number_of doc v)
    unfolding wrong_after
    wrong-own a =
        tests_same (wrong_after doc r f a) (wrong_under doc r f a (number_of doc v))
        (λ t.
        let k = any-true _ 0 doc.size t in
        let u = k.0 in
        let e : v ≡ u = simp says at (sym (row_is u (omega (arith, k.1.below))) ∙ and_l (in_row doc r u f) _ k.1.passes) in
        rw e (and_r (in_row doc r u f) (wrong_under doc r f a (number_of doc u)) k.1.passes))
        (λ t. any_some _ 0 doc.size v (record { from = omega arith; below = omega (arith, kind.size); passes = rw mine t }))

    pub reach-text : (get_or vkinds f 0 ≡ 1 → ⊥) → (x : ℕ) → 36524 < x → (a : ℕ) → a ≤ 36524 → ltb a x ≡ wrong_after doc r f a
    unfolding wrong_under is_number
    reach-text n x far a l =
        let t : eqb (doc.vkind f) 1 ≡ false = rw (kind.at f) at (ne_eqb (get_or vkinds f 0) 1 n) in
        lt-ltb a x (omega arith) ∙ sym (wrong-own a ∙ rw t)

    -- a number is wrong where some other jumps to it
    pub wrong-number : get_or vkinds f 0 ≡ 1 → (a : ℕ) → wrong_after doc r f a ≡ any (λ g. jumps doc always r (number_of doc v) f g && ltb a (doc.end g)) 0 doc.size
    unfolding wrong_under is_number
    wrong-number n a =
        let t : eqb (doc.vkind f) 1 ≡ true = rw (kind.at f) at (eq-eqb (get_or vkinds f 0) 1 n) in
        wrong-own a ∙ rw t
