-- The phase behind a byte, one law for each way to it; and the scan, byte by byte, as its loop goes.
use mathlib.Core.Path.{◌≡◌, refl, sym, ◌∙◌}
use mathlib.Core.Bool.{Bool, true, false, cond}
use mathlib.Core.List.{List}
use Prim.Native.Nat.{ℕ, suc, ◌+◌, ◌≤◌, ◌<◌}
use native.Mathlib.Omega.{arith}
use native.Mathlib.Numerals.{add-one}
use borrow.Author.Tests.{eq-eqb, ne_eqb, lt-ltb, le-ltb, ltb-true}
use lib.Dec.{eqb, ltb}
use lib.ListN.{length, get_or, drop, drop_of_length-le}
use lib.Seq.{drop-cons}
use Rattle.std.specs.Prelude.{Some, None}
use Rattle.selectors.specs.Profile.{is_first, is_inner}
use Rattle.selectors.specs.Scan.{after, left_after, scan}

module _ (phase left x : ℕ) where
  -- ahead of a step: a name begins
  pub begun : phase ≡ 0 → is_first x ≡ true → 1 ≡ after phase left x
  unfolding after
  begun p f = rw (p, f)

  -- ahead of a step: a star
  pub starred : phase ≡ 0 → is_first x ≡ false → x ≡ 42 → 2 ≡ after phase left x
  unfolding after
  starred p f s = rw (p, f, eq-eqb x 42 s)

  -- ahead of a step: neither
  pub neither : phase ≡ 0 → is_first x ≡ false → (x ≡ 42 → ⊥) → 3 ≡ after phase left x
  unfolding after
  neither p f s = rw (p, f, ne_eqb x 42 s)

  -- a slash, and one step more
  pub slashed : (phase ≡ 0 → ⊥) → x ≡ 47 → 1 < left → 0 ≡ after phase left x
  unfolding after
  slashed p s l = rw (ne_eqb phase 0 p, eq-eqb x 47 s, lt-ltb 1 left l)

  -- a slash, and no step more
  pub ninth : (phase ≡ 0 → ⊥) → x ≡ 47 → left ≤ 1 → 3 ≡ after phase left x
  unfolding after
  ninth p s l = rw (ne_eqb phase 0 p, eq-eqb x 47 s, le-ltb 1 left l)

  -- a name goes on
  pub within : phase ≡ 1 → (x ≡ 47 → ⊥) → is_inner x ≡ true → 1 ≡ after phase left x
  unfolding after
  within p s f = rw (p, ne_eqb x 47 s, f)

  -- a byte that no name has
  pub strange : phase ≡ 1 → (x ≡ 47 → ⊥) → is_inner x ≡ false → 3 ≡ after phase left x
  unfolding after
  strange p s f = rw (p, ne_eqb x 47 s, f)

  -- anything but a slash behind a star
  pub behind : (phase ≡ 0 → ⊥) → (x ≡ 47 → ⊥) → (phase ≡ 1 → ⊥) → 3 ≡ after phase left x
  unfolding after
  behind p s q = rw (ne_eqb phase 0 p, ne_eqb x 47 s, ne_eqb phase 1 q)

-- the scan is come to a byte: what is left leads to the answer on the whole text
pub record Scanning (text : List ℕ) (phase left i : ℕ) : Type 0 where
  pub inside : i ≤ length text
  pub some : 1 ≤ left
  pub rest : scan phase left i (drop i text) ≡ scan 0 8 0 text

-- no byte yet
pub scanning_none : (text : List ℕ) → Scanning text 0 8 0
scanning_none text = record { inside = omega arith; some = omega arith; rest = refl }

-- behind a slash there was more than one step to come
slash_some : (phase left x : ℕ) → 1 ≤ left → 1 ≤ left_after (after phase left x) left
unfolding after left_after
slash_some phase left x h = go (eqb phase 0) (is_first x) (eqb x 42) (eqb x 47) (ltb 1 left) refl (eqb phase 1) (is_inner x)
  where
    go : (p f s c l : Bool) → ltb 1 left ≡ l → (n i : Bool)
        → 1 ≤ left_after (cond p (cond f 1 (cond s 2 3)) (cond c (cond l 0 3) (cond n (cond i 1 3) 3))) left
    go true true s c l e n i = h
    go true false true c l e n i = h
    go true false false c l e n i = h
    go false f s true true e n i = omega (arith, ltb-true 1 left e)
    go false f s true false e n i = h
    go false f s false l e true true = h
    go false f s false l e true false = h
    go false f s false l e false i = h

module _ {text : List ℕ} {phase left i : ℕ} (r : Scanning text phase left i) where
  -- the byte that comes
  next-byte : i < length text
      → cond (eqb (after phase left (get_or text i 0)) 3) (Some i)
      (scan (after phase left (get_or text i 0)) (left_after (after phase left (get_or text i 0)) left) (suc i) (drop (suc i) text)) ≡ scan 0 8 0 text
  unfolding scan
  next-byte here = rw (drop-cons text i 0 here) at r.rest

  -- it may not follow
  pub scanning_stuck : i < length text → {next : ℕ} → next ≡ after phase left (get_or text i 0) → next ≡ 3 → Some i ≡ scan 0 8 0 text
  scanning_stuck here e s = rw (eq-eqb (after phase left (get_or text i 0)) 3 (sym e ∙ s)) at (next-byte here)

  -- it may follow
  pub scanning_more : i < length text → {next rest : ℕ} → next ≡ after phase left (get_or text i 0) → (next ≡ 3 → ⊥) → rest ≡ left_after next left → Scanning text next rest (i + 1)
  scanning_more here {next} {rest} e s l =
      let go : scan (after phase left (get_or text i 0)) (left_after (after phase left (get_or text i 0)) left) (suc i) (drop (suc i) text) ≡ scan 0 8 0 text =
      rw (ne_eqb (after phase left (get_or text i 0)) 3 (λ q. s (e ∙ q))) at (next-byte here) in
      record {
        inside = omega arith;
        some = rw (l, e) (slash_some phase left (get_or text i 0) r.some);
        rest = rw (l, e, add-one i) go;
      }

  -- the text ends ahead of a step
  pub scanning_short : length text ≤ i → phase ≡ 0 → Some (length text) ≡ scan 0 8 0 text
  unfolding scan
  scanning_short past e = let last : i ≡ length text = omega (arith, r.inside) in rw last at (rw (drop_of_length-le text past, e) at r.rest)

  -- the text ends elsewhere
  pub scanning_all : length text ≤ i → (phase ≡ 0 → ⊥) → None ≡ scan 0 8 0 text
  unfolding scan
  scanning_all past e = rw (drop_of_length-le text past, ne_eqb phase 0 e) at r.rest
