-- The keys of field versions, and the chains by them: those of a row are the ones with its version as their key.
use mathlib.Core.Path.{◌≡◌, refl, sym, ◌∙◌, ap}
use mathlib.Core.Bool.{Bool, true, false, not}
use mathlib.Core.List.{List}
use Prim.Native.Nat.{ℕ, zero, suc, ◌≤◌, ◌<◌}
use native.Mathlib.Omega.{arith}
use lib.Dec.{eqb}
use lib.ListN.{length, get_or}
use borrow.Author.Tests.{eq-eqb, ne_eqb}
use Rattle.meaning.specs.declared.Rule.{Rule}
use Rattle.meaning.specs.Document.{Doc}
use Rattle.meaning.specs.Select.{selected, field_of}
use Rattle.meaning.proofs.Basics.{clear, tests_same, never, and_r, both}
use Rattle.meaning.proofs.Says.{says}
use Rattle.meaning.proofs.Selects.{field_version}
use Rattle.meaning.specs.Block.{limit}
use Rattle.columns.specs.Chains.{past_last, keyed, Chained}
use Rattle.columns.specs.Lent.{Lends}
use Rattle.marks.specs.Marks.{Marks}
use Rattle.prepare.specs.Holders.{Holders, Skips}
use Rattle.prepare.specs.Rows.{wants, in_row, Rows}
use Rattle.prepare.specs.Keys.{Keys, Linked}
use Rattle.prepare.proofs.Filling.{Filled}
use Rattle.prepare.proofs.Skipping.{skips-by}

-- x is the key of f
abbrev pub KeyOf : Doc → Rule → ℕ → ℕ → Type 0
KeyOf doc r f x = (v : ℕ) → v < doc.size → eqb x v ≡ in_row doc r v f

pub filled-keys : (doc : Doc) (r : Rule) (i : ℕ) (keys : List ℕ) → Filled (KeyOf doc r) i keys → doc.size ≤ i → doc.size ≤ length keys → Keys doc r keys
filled-keys doc r i keys s h l = record { room = l; key = λ v f a b. s.entry f (omega arith) v a }

module _ (doc : Doc) (r : Rule) (n : ℕ) (all : doc.size ≡ n) (few : n ≤ limit) (chosen holders : List ℕ)
    (m : Marks (selected doc r) doc.size chosen) (s : Holders doc r holders) (f : ℕ) (here : f < n) (wanted : Bool) (w : wanted ≡ wants doc r f) where
  -- LIMIT is the key of none
  nowhere : ((v : ℕ) → v < doc.size → in_row doc r v f ≡ true → ⊥) → KeyOf doc r f limit
  nowhere out v h = ne_eqb limit v (λ e. omega arith) ∙ sym (never (in_row doc r v f) (out v h))

  pub key-unwanted : not wanted ≡ true → KeyOf doc r f limit
  unfolding in_row
  key-unwanted n = nowhere (λ v h t. clear (w ∙ (simp says at t).1) (simp says at n))

  module _ (y : not wanted ≡ false) (p : ℕ) (e : p ≡ get_or holders f 0) where
    held : (u : ℕ) → u < doc.size → field_of doc r u f ≡ eqb p u
    held u h = rw e (sym (s.held u f h (omega arith)))

    pub key-unheld : n ≤ p → KeyOf doc r f limit
    unfolding in_row
    key-unheld h = nowhere (λ v l t. let q = simp says at (sym (held v l) ∙ (simp says at t).0.1) in omega arith)

    module _ (h : p < n) where
      pub key-held : get_or chosen p 0 ≡ 1 → KeyOf doc r f p
      unfolding in_row
      key-held c v l =
          tests_same (eqb p v) (in_row doc r v f)
          (λ t.
          let q = simp says at t in
          let own : selected doc r v ≡ true = sym (m.mark v l) ∙ eq-eqb (get_or chosen v 0) 1 (ap (λ x. get_or chosen x 0) (sym q) ∙ c) in
          simp says ((own, held v l ∙ t), sym w ∙ (simp says at y)))
          (λ t. sym (held v l) ∙ (simp says at t).0.1)

      pub key-unchosen : (get_or chosen p 0 ≡ 1 → ⊥) → KeyOf doc r f limit
      unfolding in_row
      key-unchosen c =
          nowhere (λ v l t.
          let s = simp says at t in
          let q = simp says at (sym (held v l) ∙ s.0.1) in
          c (ap (λ x. get_or chosen x 0) q ∙ (simp says at (m.mark v l ∙ s.0.0))))

-- what `past_last` counts is told by the numbers below t
pub past-alike : (f g : ℕ → Bool) (t : ℕ) → ((k : ℕ) → k < t → f k ≡ g k) → past_last f t ≡ past_last g t
unfolding past_last
past-alike f g zero h = refl
past-alike f g (suc t) h = rw (h t (omega arith), past-alike f g t (λ k l. h k (omega arith)))

module _ (doc : Doc) (r : Rule) (kinds keys last lower : List ℕ)
    (k : Lends doc.size doc.kind 0 kinds) (few : length kinds ≤ limit) (s : Keys doc r keys) (c : Chained limit kinds keys 2 (length kinds) last lower) where
  -- the chain of v is its row
  row : (v : ℕ) → v < doc.size → (f : ℕ) → f < doc.size → keyed kinds keys 2 v f ≡ in_row doc r v f
  unfolding in_row
  row v h f l =
      tests_same (keyed kinds keys 2 v f) (in_row doc r v f)
      (λ t. sym (s.key v f h l) ∙ and_r (eqb (get_or kinds f 0) 2) (eqb (get_or keys f 0) v) t)
      (λ t.
      let q = simp says at t in
      both (eqb (get_or kinds f 0) 2) (eqb (get_or keys f 0) v) (ap (λ x. eqb x 2) (k.at f) ∙ field_version doc r v f q.0.0 q.0.1) (s.key v f h l ∙ t))

  pub linked : Linked doc r last lower
  linked =
      record {
        last_room = omega (arith, c.last_room, k.size);
        lower_room = omega (arith, c.lower_room, k.size);
        last_is = λ v h y. c.ends v (omega (arith, k.size)) ∙ ap (past_last (keyed kinds keys 2 v)) k.size ∙ past-alike _ _ doc.size (row v h);
        lower_is = λ v f h l y. c.steps v f (omega (arith, k.size)) (omega (arith, k.size)) (row v h f l ∙ y) ∙ past-alike _ _ f (λ g b. row v h g (omega arith));
      }

-- a way along the marked records and the chains of their field versions are the rows of the rule
pub rows_of : (doc : Doc) (r : Rule) (n start : ℕ) (chosen next last lower : List ℕ) → doc.size ≡ n → Marks (selected doc r) doc.size chosen
    → ((passes : ℕ → Bool) → Marks passes n chosen → Skips passes n start next) → Linked doc r last lower → Rows doc r start next last lower
rows_of doc r n start chosen next last lower all m s l =
    record {
      skips = skips-by (selected doc r) _ n start chosen next all m (s (selected doc r));
      last_room = l.last_room;
      lower_room = l.lower_room;
      last_is = l.last_is;
      lower_is = l.lower_is;
    }
