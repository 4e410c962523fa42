-- The sieve: keys as they are made, places as they are marked, and what a key that is not held says of a name.
use mathlib.Core.Path.{◌≡◌, refl, sym, ap, ◌∙◌}
use mathlib.Core.Logic.{⊎_elim}
use mathlib.Core.Bool.{Bool, true, false, ◌&&◌}
use mathlib.Core.List.{List, [], ◌∷◌}
use Prim.Native.Nat.{ℕ, ◌+◌, ◌-◌, ◌*◌, ◌%◌, ◌≤◌, ◌<◌}
use native.Mathlib.Nat.{mod-lt}
use native.Mathlib.Numerals.{add-one}
use native.Mathlib.Omega.{arith}
use borrow.Author.Tests.{eqb-true, eqb-false, eq-eqb, ne_eqb}
use lib.Dec.{eqb, ltb}
use lib.ListN.{length, take, drop, get_or, set, replicate, length-set, length-replicate, drop_of_length-le}
use lib.Seq.{drop-cons, get_or-set_same, get_or-set_other}
use Rattle.meaning.proofs.Basics.{went, clear, and_l, and_r}
use Rattle.selectors.specs.Parts.{parts, each, same}
use Rattle.selectors.specs.Dictionary.{name_of, has, number_in}
use Rattle.selectors.specs.Lining.{of_class, again, sifts, Sifted, Took}
use Rattle.selectors.specs.Sieve.{key_from, key_of, marked, holds, with_key, Put}
use Rattle.selectors.proofs.Sameness.{same-equal}
use Rattle.selectors.proofs.Names.{known_number}

module _ (name : List ℕ) (i key k : ℕ) (so_far : key_from key (drop i name) ≡ k) where
  -- a key goes on by the next byte
  pub key_step : i < length name → key_from ((742938285 * key + get_or name i 0) % 2147483647) (drop (i + 1) name) ≡ k
  unfolding key_from
  key_step h = rw add-one (rw (drop-cons name i 0 h) at so_far)

  -- behind the last byte the key is made
  pub key-end : length name ≤ i → key ≡ k
  unfolding key_from
  key-end h = rw (drop_of_length-le name h) at so_far

-- a table that is wiped out has as much room as it had
pub wiped_room : (n : ℕ) {s : List ℕ} → s ≡ replicate n 0 → 64 ≤ n → 64 ≤ length s
wiped_room n e h = omega (arith, ap length e, length-replicate {A = ℕ} n 0)

-- a remainder by the length of a table, less at most 23, is a place of it
pub place_inside : (key n less : ℕ) → 64 ≤ n → less ≤ 23 → key % (n - less) < n
place_inside key n less h l = omega (arith, mod-lt key {m = n - less} (omega arith))

-- a table of the same size in which every marked place still is marked
record Grown (s t : List ℕ) : Type 0 where
  size : length t ≡ length s
  kept : (j : ℕ) → marked s j ≡ true → marked t j ≡ true

-- a place that is set to 1 is marked
set_marks : (s : List ℕ) (i : ℕ) → i < length s → marked (set s i 1) i ≡ true
set_marks s i h = eq-eqb (get_or (set s i 1) i 0) 1 (get_or-set_same s i 1 0 h)

-- where a place was set to 1, every place that was marked still is
set_grows : (s : List ℕ) (i : ℕ) → i < length s → Grown s (set s i 1)
set_grows s i h =
    record {
      size = length-set s i 1;
      kept =
          λ j m.
          ⊎_elim
          (λ t. rw (eqb-true j i t) (set_marks s i h))
          (λ t. rw (get_or-set_other s i j 1 0 (eqb-false j i t)) m)
          (went (eqb j i));
    }

-- a table that grew twice grew
grows_on : {s t u : List ℕ} → Grown s t → Grown t u → Grown s u
grows_on a b = record { size = b.size ∙ a.size; kept = λ j m. b.kept j (a.kept j m) }

-- a table in which the four places of a key are marked holds it
holds-four :
    (s t : List ℕ) (k : ℕ) → length t ≡ length s → marked t (k % length s) ≡ true → marked t (k % (length s - 5)) ≡ true → marked t (k % (length s - 11)) ≡ true
    → marked t (k % (length s - 23)) ≡ true
    → holds t k ≡ true
unfolding holds
holds-four s t k e a b c d = rw (e, a, b, c, d)

-- a table that grew holds what it held
holds_on : (s t : List ℕ) (k : ℕ) → Grown s t → holds s k ≡ true → holds t k ≡ true
unfolding holds
holds_on s t k g h =
    let n = length s in
    let a = marked s (k % n) in
    let b = marked s (k % (n - 5)) in
    let c = marked s (k % (n - 11)) in
    let d = marked s (k % (n - 23)) in
    let abc = and_l (a && b && c) d h in
    let ab = and_l (a && b) c abc in
    holds-four s t k g.size (g.kept (k % n) (and_l a b ab)) (g.kept (k % (n - 5)) (and_r a b ab)) (g.kept (k % (n - 11)) (and_r (a && b) c abc)) (g.kept (k % (n - 23)) (and_r (a && b && c) d h))

-- a key is put in by marking its four places
pub put_four : (s : List ℕ) (key : ℕ) → 64 ≤ length s → Put s key (with_key s key)
unfolding with_key
put_four s key room =
    let n = length s in
    let a = key % n in
    let b = key % (n - 5) in
    let c = key % (n - 11) in
    let d = key % (n - 23) in
    let t = set s a 1 in
    let u = set t b 1 in
    let v = set u c 1 in
    let w = set v d 1 in
    let in-s : a < length s = mod-lt key (omega arith) in
    let to-t = set_grows s a in-s in
    let in-t : b < length t = omega (arith, place_inside key n 5 room (omega arith), to-t.size) in
    let to-u = set_grows t b in-t in
    let in-u : c < length u = omega (arith, place_inside key n 11 room (omega arith), to-t.size, to-u.size) in
    let to-v = set_grows u c in-u in
    let in-v : d < length v = omega (arith, place_inside key n 23 room (omega arith), to-t.size, to-u.size, to-v.size) in
    let to-w = set_grows v d in-v in
    let from-u = grows_on to-v to-w in
    let from-t = grows_on to-u from-u in
    let whole = grows_on to-t from-t in
    record {
      size = whole.size;
      put =
          holds-four s w key whole.size (from-t.kept a (set_marks s a in-s)) (from-u.kept b (set_marks t b in-t)) (to-w.kept c (set_marks u c in-u)) (set_marks v d in-v);
      kept = λ k. holds_on s w k whole;
    }

-- a key that passes p and is not held is that of no line, where all keys of lines that pass p are held
pub new-name :
    (p : ℕ → Bool) (sieve name : List ℕ) (ls : List (List ℕ)) → each (sifts p sieve) ls ≡ true → p (key_of name) ≡ true → holds sieve (key_of name) ≡ false
    → has ls name ≡ false
unfolding each has sifts
new-name p sieve name [] e y n = refl
new-name p sieve name (l ∷ ls) e y n =
    let rest = each (sifts p sieve) ls in
    let here : sifts p sieve l ≡ true = and_l (sifts p sieve l) rest e in
    ⊎_elim
    (λ t. let q = same-equal (name_of l) name t in absurd (clear (rw q at here) (rw (y, n))))
    (λ t. rw t (new-name p sieve name ls (and_r (sifts p sieve l) rest e) y n))
    (went (same (name_of l) name))

module _ {p : ℕ → Bool} {d sieve : List ℕ} {n : ℕ} (name : List ℕ) (s : Sifted p d n sieve) where
  -- a name whose key does not pass counts as one that no line has
  pub stood_apart : p (key_of name) ≡ false → false ≡ again p (take n (parts 10 d)) name
  unfolding again
  stood_apart o = rw o

  -- of lines that were sifted one has a name, whose key passes, exactly where the number that they give it is not 0
  pub stood_known : {v : ℕ} → p (key_of name) ≡ true → v ≡ number_in (take n (parts 10 d)) name → ltb 0 v ≡ again p (take n (parts 10 d)) name
  unfolding again
  stood_known y e = rw (y, e) (sym (known_number (take n (parts 10 d)) name s.entries.sound))

  -- none of them has a name whose key passes and is not held
  pub stood_new : {key : ℕ} → p (key_of name) ≡ true → key ≡ key_of name → holds sieve key ≡ false → false ≡ again p (take n (parts 10 d)) name
  unfolding again
  stood_new y e h = rw y (sym (new-name p sieve name (take n (parts 10 d)) s.held y (rw e at h)))

module _ {p : ℕ → Bool} {name sieve : List ℕ} where
  -- a key that does not pass is taken with nothing put in
  pub took_apart : p (key_of name) ≡ false → Took p name sieve sieve
  took_apart o = record { size = refl; put = λ y. absurd (clear y o); kept = λ k h. h }

  -- a key that is held already is taken with nothing put in
  pub took_held : {key : ℕ} → key ≡ key_of name → holds sieve key ≡ true → Took p name sieve sieve
  took_held e h = record { size = refl; put = λ y. rw e at h; kept = λ k h. h }

  -- a key is taken by being put in
  pub took_put : (key : ℕ) {after : List ℕ} → 64 ≤ length sieve → key ≡ key_of name → after ≡ with_key sieve key → Took p name sieve after
  took_put key room e f =
      let put = rw (← f) at (put_four sieve key room) in
      record { size = put.size; put = λ y. rw e at put.put; kept = put.kept }

module _ (class classes : ℕ) {key : ℕ} (name : List ℕ) (e : key ≡ key_of name) where
  -- a key is of a class where its test says so
  pub of-class_lem : key % classes ≡ class → of_class class classes (key_of name) ≡ true
  unfolding of_class
  of-class_lem q = eq-eqb (key_of name % classes) class (rw e at q)

  -- a key is of another class where its test says so
  pub off_class : (key % classes ≡ class → ⊥) → of_class class classes (key_of name) ≡ false
  unfolding of_class
  off_class q = ne_eqb (key_of name % classes) class (rw e at q)
