-- Decimal numbers as digits: what the scan of a text's digits finds, and when they are a number of a dictionary.
use mathlib.Core.Path.{◌≡◌, refl, sym, ap, ◌∙◌}
use mathlib.Core.Logic.{⊎_elim}
use mathlib.Core.Bool.{true, false, ◌&&◌, ◌||◌, not}
use mathlib.Core.List.{List, [], ◌∷◌, ◌++◌}
use Prim.Native.Nat.{ℕ, suc, ◌+◌, ◌≤◌, min}
use native.Mathlib.Omega.{arith}
use borrow.Author.Tests.{leb-true, le-leb, lt-ltb, eqb-true, eqb-false, not-true}
use lib.Dec.{eqb, leb, ltb}
use lib.ListN.{length, drop}
use Rattle.meaning.proofs.Basics.{went, never, clear, and_l, and_r, both, or_cases, or_r}
use Rattle.typed.specs.declared.scan.Digits.{Digits}
use Rattle.std.specs.Prelude.{Option, Some, None}
use Rattle.typed.specs.Numeral.{is_digit, longer, digits, top, digits_at, stands, is_plain, number_at}
use Rattle.typed.proofs.Scans.{stands-inside}
use Rattle.selectors.specs.Parts.{each}
use Rattle.selectors.specs.Dictionary.{spelt, is_number}
use Rattle.selectors.proofs.Places.{behind_front, next-stands, stands-next}

-- what a number of a dictionary is but for its first digit
pub record Spells (ds : List ℕ) : Type 0 where
  pub digits : each is_digit ds ≡ true
  pub least : 1 ≤ spelt 0 ds
  pub most : spelt 0 ds ≤ 65534

-- a number is spelt so
pub number-spells : (ds : List ℕ) → is_number ds ≡ true → Spells ds
unfolding is_number
number-spells [] e = absurd (clear e refl)
number-spells (x ∷ ds) e =
    let n = spelt 0 (x ∷ ds) in
    let all = each is_digit (x ∷ ds) in
    let three = and_l (not (eqb x 48) && all && leb 1 n) (leb n 65534) e in
    record {
      digits = and_r (not (eqb x 48)) all (and_l (not (eqb x 48) && all) (leb 1 n) three);
      least = leb-true 1 n (and_r (not (eqb x 48) && all) (leb 1 n) three);
      most = leb-true n 65534 (and_r (not (eqb x 48) && all && leb 1 n) (leb n 65534) e);
    }

-- and begins with no zero
pub number-head : (x : ℕ) (ds : List ℕ) → is_number (x ∷ ds) ≡ true → eqb x 48 ≡ false
unfolding is_number
number-head x ds e =
    let n = spelt 0 (x ∷ ds) in
    let all = each is_digit (x ∷ ds) in
    not-true (eqb x 48) (and_l (not (eqb x 48)) all (and_l (not (eqb x 48) && all) (leb 1 n) (and_l (not (eqb x 48) && all && leb 1 n) (leb n 65534) e)))

-- what is spelt so with no zero ahead is a number
pub spells_number : (x : ℕ) (ds : List ℕ) → Spells (x ∷ ds) → (x ≡ 48 → ⊥) → is_number (x ∷ ds) ≡ true
unfolding is_number
spells_number x ds s h =
    let z : eqb x 48 ≡ false = never (eqb x 48) (λ t. h (eqb-true x 48 t)) in
    rw (z, s.digits, le-leb 1 (spelt 0 (x ∷ ds)) s.least) (le-leb (spelt 0 (x ∷ ds)) 65534 s.most)

module _ (d : List ℕ) (i : ℕ) where
  -- digits that spell a number are plain where they stand
  pub number-plain : (ds b : List ℕ) → drop i d ≡ ds ++ b → is_number ds ≡ true → is_plain d i (i + length ds) ≡ true
  unfolding is_plain is_number
  number-plain [] b e n = absurd (clear n refl)
  number-plain (x ∷ ds) b e n =
      let z : stands d i 48 ≡ false =
      never (stands d i 48)
      (λ t. let both_ways : x ∷ (ds ++ b) ≡ 48 ∷ drop (i + 1) d = sym e ∙ stands-next d i t in
      let q : x ≡ 48 = cc in
      eqb-false x 48 (number-head x ds n) q)
      in
      both (ltb i (i + length (x ∷ ds))) (eqb (i + length (x ∷ ds)) (i + 1) || not (stands d i 48)) (lt-ltb i (i + length (x ∷ ds)) (omega arith))
      (or_r (eqb (i + length (x ∷ ds)) (i + 1)) (not (stands d i 48)) (rw z))

  -- plain digits that spell one are a number
  pub plain_number : (ds b : List ℕ) → drop i d ≡ ds ++ b → is_plain d i (i + length ds) ≡ true → Spells ds → is_number ds ≡ true
  unfolding is_plain spelt
  plain_number [] b e p s = absurd (omega (arith, s.least))
  plain_number (x ∷ []) b e p s = spells_number x [] s (λ q. omega (arith, s.least))
  plain_number (x ∷ y ∷ ds) b e p s =
      let n = i + length (x ∷ y ∷ ds) in
      spells_number x (y ∷ ds) s
      (λ q. ⊎_elim
      (λ t. let one = eqb-true n (i + 1) t in omega arith)
      (λ t. clear (next-stands d i (e ∙ ap (λ k. k ∷ (y ∷ ds ++ b)) q)) (not-true (stands d i 48) t))
      (or_cases (eqb n (i + 1)) (not (stands d i 48)) (and_r (ltb i n) (eqb n (i + 1) || not (stands d i 48)) p)))

-- the digits in front of a text, of which the first stands at place i and those ahead of it spell v
record Digited (s : List ℕ) (v i : ℕ) (found : Digits) : Type 0 where
  front : List ℕ
  back : List ℕ
  joined : s ≡ front ++ back
  passing : each is_digit front ≡ true
  value : found.value ≡ spelt v front
  next : found.next ≡ i + length front

-- what the scan finds are the digits in front
digits-front : (s : List ℕ) (v i : ℕ) → Digited s v i (digits v i s)
unfolding digits each spelt
digits-front [] v i = record { front = []; back = []; joined = refl; passing = refl; value = refl; next = omega arith }
digits-front (x ∷ s) v i =
    ⊎_elim
    (λ t.
    let r = digits-front s (longer v x) (suc i) in
    record {
      front = x ∷ r.front;
      back = r.back;
      joined = ap (λ l. x ∷ l) r.joined;
      passing = rw t r.passing;
      value = rw t r.value;
      next = rw t (omega (arith, r.next));
    })
    (λ t. record { front = []; back = x ∷ s; joined = refl; passing = refl; value = rw t; next = rw t (omega arith) })
    (went (is_digit x))

-- digits that another byte ends are found by the scan
digits-ended : (a : List ℕ) (x : ℕ) (b : List ℕ) (v i : ℕ) → each is_digit a ≡ true → is_digit x ≡ false → digits v i (a ++ (x ∷ b)) ≡ record { value = spelt v a; next = i + length a }
unfolding digits each spelt
digits-ended [] x b v i e o = let z : i ≡ i + 0 = omega arith in rw o (ap {B = Digits} (λ k. record { value = v; next = k }) z)
digits-ended (y ∷ a) x b v i e o =
    let z : suc i + length a ≡ i + suc (length a) = omega arith in
    rw (and_l (is_digit y) (each is_digit a) e)
    (digits-ended a x b (longer v y) (suc i) (and_r (is_digit y) (each is_digit a) e) o
    ∙ ap {B = Digits} (λ k. record { value = spelt (longer v y) a; next = k }) z)

-- a number of at most 65,534 that a line feed ends, from place i to place n of a text
pub record Numbered (d : List ℕ) (i v n : ℕ) : Type 0 where
  pub front : List ℕ
  pub joined : drop i d ≡ front ++ (10 ∷ drop n d)
  pub passing : each is_digit front ≡ true
  pub plain : is_plain d i (i + length front) ≡ true
  pub value : v ≡ spelt 0 front
  pub most : v ≤ 65534
  pub next : n ≡ i + length front + 1
  pub inside : n ≤ length d

module _ (d : List ℕ) (i : ℕ) where
  -- where the scan finds a number there are its digits
  pub number-scanned : {v n : ℕ} → number_at d i 65534 10 ≡ Some (v, n) → Numbered d i v n
  unfolding number_at digits_at
  number-scanned {v} {n} e =
      let r = digits-front (drop i d) 0 i in
      let f = digits 0 i (drop i d) in
      let plain = is_plain d i f.next in
      let fits = leb (min f.value top) 65534 in
      ⊎_elim
      (λ t.
      let found : ◌≡◌ {A = Option (ℕ × ℕ)} (Some (min f.value top, f.next + 1)) (Some (v, n)) = rw t at e in
      let both : ◌≡◌ {A = ℕ × ℕ} (min f.value top, f.next + 1) (v, n) = cc in
      let least : min f.value top ≡ v = ap (λ (p : ℕ × ℕ). p.0) both in
      let place : f.next + 1 ≡ n = ap (λ (p : ℕ × ℕ). p.1) both in
      let most = leb-true (min f.value top) 65534 (and_r plain fits (and_r (stands d f.next 10) (plain && fits) t)) in
      let stop : stands d (i + length r.front) 10 ≡ true = rw r.next at (and_l (stands d f.next 10) (plain && fits) t) in
      let next : i + length r.front + 1 ≡ n = omega (arith, r.next) in
      let back : r.back ≡ 10 ∷ drop n d =
      sym (behind_front d i r.front r.joined) ∙ stands-next d (i + length r.front) stop ∙ ap (λ k. 10 ∷ drop k d) next
      in
      record {
        front = r.front;
        joined = r.joined ∙ ap (λ l. r.front ++ l) back;
        passing = r.passing;
        plain = rw r.next at (and_l plain fits (and_r (stands d f.next 10) (plain && fits) t));
        value = omega (arith, r.value);
        most = omega arith;
        next = sym next;
        inside = omega (arith, stands-inside d (i + length r.front) 10 stop);
      })
      (λ t. let wrong : ◌≡◌ {A = Option (ℕ × ℕ)} None (Some (v, n)) = rw t at e in let z : ◌≡◌ {A = ℕ} 0 1 = cc in absurd (omega arith))
      (went (stands d f.next 10 && (plain && fits)))

  -- where there are the digits of a number and a line feed the scan finds it
  pub number-found : (ds b : List ℕ) → drop i d ≡ ds ++ (10 ∷ b) → is_number ds ≡ true → number_at d i 65534 10 ≡ Some (spelt 0 ds, i + length ds + 1)
  unfolding number_at digits_at
  number-found ds b e n =
      let s = number-spells ds n in
      let small : min (spelt 0 ds) top ≡ spelt 0 ds = omega (arith, s.most) in
      rw (e, digits-ended ds 10 b 0 i s.digits refl, small, next-stands d (i + length ds) (behind_front d i ds e), number-plain d i ds (10 ∷ b) e n, le-leb (spelt 0 ds) 65534 s.most)
