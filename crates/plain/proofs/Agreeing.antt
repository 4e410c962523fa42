-- Who offends on a day hangs on the marks of its slice, and on nothing past the document's records.
use mathlib.Core.Path.{◌≡◌, refl, sym, ap, ◌∙◌}
use mathlib.Core.Bool.{Bool, true, false, ◌&&◌, not}
use mathlib.Core.List.{List}
use Prim.Native.Nat.{ℕ, ◌≤◌, ◌<◌}
use native.Mathlib.Omega.{arith}
use lib.Dec.{eqb}
use lib.ListN.{length, get_or, take}
use lib.Seq.{get_or-take}
use Rattle.std.specs.Prelude.{None}
use Rattle.std.specs.Cmp.Lexicographic.{pointwise, same_text}
use Rattle.meaning.specs.declared.Rule.{Rule}
use Rattle.meaning.specs.Walk.{first, Found}
use Rattle.meaning.specs.Document.{Doc}
use Rattle.meaning.specs.Day.{present_on, offends, offender}
use Rattle.meaning.proofs.Says.{says}
use Rattle.meaning.proofs.Selects.{version-here, read-version}
use Rattle.meaning.proofs.Agree.{Agree, offends-agree}
use Rattle.marks.specs.Marks.{marked, Marks}
use Rattle.plain.specs.Walking.{offender_by}

-- lists whose fronts are compared as the same have the same entries there
front-same : (a b : List ℕ) (n : ℕ) → true ≡ pointwise eqb (take n a) (take n b) → (i : ℕ) → i < n → get_or a i 0 ≡ get_or b i 0
front-same a b n e i h = sym (get_or-take n a i 0 h) ∙ ap (λ l. get_or l i 0) (same_text (take n a) (take n b) e) ∙ get_or-take n b i 0 h

module _ (doc : Doc) (q r : Rule) where
  -- two presences that agree on every record have the same offenders
  offends-alike : (p p' : ℕ → Bool) → ((i : ℕ) → i < doc.size → p i ≡ p' i) → offends doc p q r ≡ offends doc p' q r
  unfolding Agree
  offends-alike p p' alike =
      offends-agree doc p p' q r (λ i e. alike i (version-here doc i (read-version doc r i e))) (λ k i e. alike i (version-here doc i (read-version doc q i e)))

  -- the marks of a day's slice give the day's offender
  pub offender-marked : (d : ℕ) (marks : List ℕ) → Marks (present_on doc d) doc.size marks → offender_by doc q r marks ≡ offender doc q r d
  unfolding offender_by offender
  offender-marked d marks m = ap (λ (f : ℕ → Bool). first f 0 doc.size) (offends-alike (marked marks) (present_on doc d) m.mark)

  -- a day with the slice of the day before, which had no offender, has none
  pub unjudged : (before marks : List ℕ) {n : ℕ} → n ≡ doc.size → {again opening : Bool} → again ≡ pointwise eqb (take n before) (take n marks) → again && not opening ≡ true
      → (opening ≡ false → offender_by doc q r before ≡ None) → None ≡ offender_by doc q r marks
  unfolding offender_by
  unjudged before marks {n} size e t none =
      let w = simp says at t in
      let same : (i : ℕ) → i < doc.size → get_or before i 0 ≡ get_or marks i 0 = λ i h. front-same before marks n (sym w.0 ∙ e) i (omega (arith, size, h)) in
      sym (none w.1) ∙ ap (λ (f : ℕ → Bool). first f 0 doc.size) (offends-alike (marked before) (marked marks) (λ i h. ap (λ (x : ℕ). eqb x 1) (same i h)))

  -- what is judged by the marks
  pub judged : (marks : List ℕ) → doc.size ≤ length marks → {x : Found} → (Marks (marked marks) doc.size marks → x ≡ first (offends doc (marked marks) q r) 0 doc.size) → x ≡ offender_by doc q r marks
  unfolding offender_by
  judged marks room f = f (record { room = room; mark = λ i h. refl })
