-- The root's versions follow one another exactly where `Rooted` holds, if each version has a period.
use mathlib.Core.Path.{◌≡◌, refl, sym, ◌∙◌}
use mathlib.Core.Logic.{◌↔◌, ◌⊎◌, inl, inr, ⊎_elim}
use mathlib.Core.Bool.{Bool, true, false, ◌&&◌, ◌||◌, not, cond}
use Prim.Native.Nat.{ℕ, zero, suc, ◌+◌, ◌≤◌, ◌<◌}
use native.Mathlib.Omega.{arith}
use borrow.Author.Tests.{ltb-false}
use lib.Dec.{eqb, ltb}
use Rattle.meaning.specs.Walk.{any}
use Rattle.meaning.specs.Document.{Doc, version_of}
use Rattle.meaning.specs.Nodes.{whole_from, whole}
use Rattle.meaning.proofs.Sound.{Version, Rooted}
use Rattle.meaning.proofs.Basics.{went, clear, and_else}
use Rattle.meaning.proofs.Walks.{any-true}
use Rattle.meaning.proofs.Says.{says}
use Rattle.meaning.proofs.Places.{is-version_lem, version-test, version-says}

-- a step of the walk, at a root version
turn : (t r x : Bool) → (t && (not r && x)) ≡ (not (cond (not t) true r) && x)
turn true r x = refl
turn false r x = refl

module _ (doc : Doc) where
  -- the end of the last root version below place i, 0 where there is none
  ended : ℕ → ℕ
  ended zero = 0
  ended (suc i) = cond (version_of doc 0 i) (doc.end i) (ended i)

  -- root version v does not begin where the one before it ended
  apart : ℕ → Bool
  apart v = version_of doc 0 v && not (eqb (ended v) 0 || eqb (doc.begin v) (ended v))

  -- the walk from i up to m finds no such version, and comes to an end past 0
  walked : (n i m : ℕ) → i + n ≡ m → whole_from doc (ended i) i n ≡ (not (any apart i n) && ltb 0 (ended m))
  unfolding whole_from any ended apart
  walked zero i m h = let e : i ≡ m = omega arith in rw e
  walked (suc n) i m h =
      let r = walked n (suc i) m (omega arith) in
      ⊎_elim
      (λ y. rw (y, rw y at r) (turn (eqb (ended i) 0 || eqb (doc.begin i) (ended i)) (any apart (suc i) n) (ltb 0 (ended m))))
      (λ z. rw (z, rw z at r))
      (went (version_of doc 0 i))

  -- no root version from a up to, not including, v
  abbrev Gap : ℕ → ℕ → Type 0
  Gap a v = (w : ℕ) → a ≤ w → w < v → Version doc 0 w → ⊥

  -- what stands below v: no root version, or a last one
  abbrev Below : ℕ → Type 0
  Below v = (Gap 0 v × (ended v ≡ 0)) ⊎ ((u : ℕ) × (u < v) × Version doc 0 u × Gap (suc u) v × (ended v ≡ doc.end u))

  -- a record that is no root version makes a gap longer
  longer : (a v : ℕ) → version_of doc 0 v ≡ false → Gap a v → Gap a (suc v)
  longer a v z f w h l x =
      let last : w < v → ⊥ = λ b. f w h b x in
      let e : w ≡ v = omega arith in
      clear (version-test doc 0 w x) (rw e z)

  below : (v : ℕ) → Below v
  unfolding ended
  below zero = inl (λ w a b. absurd (omega arith), refl)
  below (suc v) =
      let r = below v in
      ⊎_elim
      (λ y. inr (v, omega arith, is-version_lem doc 0 v y, λ w a b. absurd (omega arith), rw y))
      (λ z. ⊎_elim
      (λ q. inl (longer 0 v z q.0, rw z q.1))
      (λ q. inr (q.0, omega arith, q.2, longer (suc q.0) v z q.3, rw z q.4))
      r)
      (went (version_of doc 0 v))

  -- the version before v is the last below v
  after : (u v : ℕ) → u < v → Version doc 0 u → Gap (suc u) v → ended v ≡ doc.end u
  after u v l x f =
      ⊎_elim
      (λ q. absurd (q.0 u (omega arith) l x))
      (λ q.
      let not_lower : u < q.0 → ⊥ = λ b. f q.0 b q.1 q.2 in
      let not-higher : q.0 < u → ⊥ = λ b. q.3 u b l x in
      let e : u ≡ q.0 = omega arith in
      rw e q.4)
      (below v)

  -- 10: the walk passes exactly where the statement holds
  pub rooted : ((v : ℕ) → Version doc 0 v → doc.begin v < doc.end v) → (whole doc ≡ true) ↔ Rooted doc
  unfolding whole ended apart
  rooted period =
      let all = walked doc.size 0 doc.size (omega arith) in (
        λ e. let g = simp (says, version-says) at (sym all ∙ e) in
            record {
              some = ⊎_elim (λ q. absurd (omega arith)) (λ q. (q.0, q.2)) (below doc.size);
              next = λ u v l x y f.
                  let e = after u v l x f in
                  sym (g.0 v (omega arith) (omega arith) y (λ z. omega (arith, period u x)) ∙ e);
            },
        λ r. all ∙ simp (says, version-says) (
          λ v a b x z. ⊎_elim (λ q. absurd (z q.1)) (λ q. sym (q.4 ∙ r.next q.0 v q.1 q.2 x q.3)) (below v),
          ⊎_elim
              (λ q. absurd (q.0 r.some.0 (omega arith) r.some.1.here r.some.1))
              (λ q. omega (arith, q.4, period q.0 q.2))
              (below doc.size),
        ),
      )

  -- .. and fails where the root has no version, or one does not begin where the one before it ended
  pub not_whole : ((v : ℕ) → Version doc 0 v → doc.begin v < doc.end v) → whole doc ≡ false
      → ((v : ℕ) → Version doc 0 v → ⊥)
      ⊎ ((u : ℕ) × (v : ℕ) × (u < v) × Version doc 0 u × Version doc 0 v × ((w : ℕ) → u < w → w < v → Version doc 0 w → ⊥) × (doc.end u ≡ doc.begin v → ⊥))
  unfolding whole ended apart
  not_whole period e =
      let all = walked doc.size 0 doc.size (omega arith) in
      and_else (not (any apart 0 doc.size)) (ltb 0 (ended doc.size))
      (λ z. let w = any-true apart 0 doc.size (simp says at z) in
      let v = w.0 in
      let a = simp (says, version-says) at w.1.passes in
      ⊎_elim
      (λ q. absurd (a.1.0 q.1))
      (λ q. inr (q.0, v, q.1, q.2, a.0, q.3, λ s. a.1.1 (sym (q.4 ∙ s))))
      (below v))
      (λ z. ⊎_elim
      (λ q. inl (λ v x. q.0 v (omega arith) x.here x))
      (λ q. absurd (omega (arith, ltb-false 0 (ended doc.size) z, q.4, period q.0 q.2)))
      (below doc.size))
      (sym all ∙ e)
