-- The end of each item's last version so far tells at a look whether the next version is early; where the one pass of 7 stands at record i.
use mathlib.Core.Path.{◌≡◌, refl, sym, ◌∙◌, ap}
use mathlib.Core.Logic.{⊎_elim}
use mathlib.Core.Bool.{Bool, true, false, ◌&&◌, ◌||◌, cond, or-false}
use mathlib.Core.List.{List, [], ◌∷◌}
use Prim.Native.Nat.{ℕ, zero, suc, ◌+◌, ◌≤◌, ◌<◌}
use native.Mathlib.Nat.{zero-add, add-zero}
use native.Mathlib.Numerals.{add-one}
use native.Mathlib.Omega.{arith}
use lib.Dec.{ltb, eqb}
use lib.ListN.{length, get_or, set}
use lib.Seq.{get_or-set_same, get_or-set_other}
use borrow.Author.Count.{below_more}
use borrow.Author.Tests.{ltb-true, ltb-false, lt-ltb, le-ltb, eqb-true, eqb-false, eq-eqb, ne_eqb}
use Rattle.std.specs.Prelude.{Some, None}
use Rattle.meaning.specs.Walk.{any, first}
use Rattle.meaning.specs.Document.{Doc, version_of}
use Rattle.meaning.specs.Nodes.{early, leaves, misplaced}
use Rattle.meaning.proofs.Basics.{went, and_l, and_r, neither_l}
use Rattle.meaning.proofs.Walks.{first-at, first-none}

-- a walk of one number more
any-more : (f : ℕ → Bool) (i n : ℕ) → any f i (suc n) ≡ (any f i n || f (i + n))
unfolding any
any-more f i zero = rw (add-zero i) (itself (f i))
  where
    itself : (t : Bool) → cond t true false ≡ t
    itself true = refl
    itself false = refl
any-more f i (suc n) =
    let same : suc i + n ≡ i + suc n = omega arith in
    ⊎_elim (λ y. rw y) (λ z. rw z (any-more f (suc i) n ∙ ap (λ k. any f (suc i) n || f k) same)) (went (f i))

-- of two days, a day before the first is before the second
absorbed : (b x y : ℕ) → x ≤ y → (ltb b x || ltb b y) ≡ ltb b y
absorbed b x y h = ⊎_elim (λ e. rw (e, lt-ltb b y (omega (arith, ltb-true b x e)))) (λ e. rw e) (went (ltb b x))

-- a list of zeros
abbrev pub zeroed : List ℕ → Bool
zeroed [] = true
zeroed (x ∷ l) = eqb x 0 && zeroed l

all-zero_lem : (l : List ℕ) (p : ℕ) → zeroed l ≡ true → get_or l p 0 ≡ 0
all-zero_lem [] p e = refl
all-zero_lem (x ∷ l) zero e = eqb-true x 0 (and_l (eqb x 0) (zeroed l) e)
all-zero_lem (x ∷ l) (suc p) e = all-zero_lem l p (and_r (eqb x 0) (zeroed l) e)

module _ (doc : Doc) where
  -- u is a version of item p, and ends after day b
  abbrev after : ℕ → ℕ → ℕ → Bool
  after p b u = version_of doc p u && ltb b (doc.end u)

  -- record by record below i every version was placed, and `last` has the last end of each item's versions, 0 where it has none
  pub record Pass (last : List ℕ) (i : ℕ) : Type 0 where
    pub placed : (v : ℕ) → v < i → misplaced doc v ≡ false
    pub ends : (p b : ℕ) → any (after p b) 0 i ≡ ltb b (get_or last p 0)

  pub pass_start : (last : List ℕ) → zeroed last ≡ true → Pass last 0
  unfolding any
  pass_start last e = record { placed = λ v h. absurd (omega arith); ends = λ p b. sym (le-ltb b (get_or last p 0) (omega (arith, all-zero_lem last p e))) }

  module _ (last : List ℕ) (i : ℕ) (s : Pass last i) where
    pub pass_end : doc.size ≤ i → None ≡ first (misplaced doc) 0 doc.size
    pass_end h = sym (first-none (misplaced doc) 0 doc.size (λ v a b. s.placed v (omega arith)))

    on : (new : List ℕ) → misplaced doc i ≡ false → ((p b : ℕ) → (ltb b (get_or last p 0) || after p b i) ≡ ltb b (get_or new p 0)) → Pass new (i + 1)
    on new e h =
        record {
          placed = below_more _ i s.placed e;
          ends = λ p b. rw (add-one i) (any-more (after p b) 0 i ∙ rw (s.ends p b, zero-add i) (h p b));
        }

    -- a record that is no version
    pub pass_skip : (doc.kind i ≡ 2 → ⊥) → Pass last (i + 1)
    unfolding misplaced version_of
    pass_skip k =
        let e = ne_eqb (doc.kind i) 2 k in
        on last (rw e) (λ p b. rw e (or-false (ltb b (get_or last p 0))))

    -- a version, of item p; `out` says whether it leaves the period in which p stands
    module _ (k : doc.kind i ≡ 2) (p : ℕ) (q : p ≡ doc.parent i) (out : Bool) (o : out ≡ leaves doc i) where
      abbrev test : Bool
      test = ltb (doc.begin i) (get_or last p 0) || out

      misplaced-by : misplaced doc i ≡ test
      unfolding misplaced early
      misplaced-by = rw (eq-eqb (doc.kind i) 2 k, s.ends (doc.parent i) (doc.begin i), sym q, sym o)

      of : (x : ℕ) → version_of doc x i ≡ eqb p x
      unfolding version_of
      of x = rw (eq-eqb (doc.kind i) 2 k, sym q)

      pub pass_hit : test ≡ true → i < doc.size → Some i ≡ first (misplaced doc) 0 doc.size
      pass_hit y h = sym (first-at (misplaced doc) i 0 doc.size (omega arith) (omega arith) (misplaced-by ∙ y) (λ v a b. s.placed v b))

      pub pass_store : test ≡ false → p < length last → doc.begin i ≤ doc.end i → Pass (set last p (doc.end i)) (i + 1)
      pass_store z r w = on (set last p e) (misplaced-by ∙ z) (λ x b. ⊎_elim (λ y. rw (sym (eqb-true p x y)) (same b)) (λ n. other x b n) (went (eqb p x)))
        where
          e : ℕ
          e = doc.end i

          same : (b : ℕ) → (ltb b (get_or last p 0) || after p b i) ≡ ltb b (get_or (set last p e) p 0)
          same b =
              rw (of p, eq-eqb p p refl, get_or-set_same last p e 0 r)
              (absorbed b (get_or last p 0) e (omega (arith, ltb-false (doc.begin i) (get_or last p 0) (neither_l (ltb (doc.begin i) (get_or last p 0)) out z))))

          other : (x b : ℕ) → eqb p x ≡ false → (ltb b (get_or last x 0) || after x b i) ≡ ltb b (get_or (set last p e) x 0)
          other x b n = rw (of x, n, get_or-set_other last p x e 0 (λ m. eqb-false p x n (omega arith))) (or-false (ltb b (get_or last x 0)))
