-- A dictionary as it is checked from line to line: what is known ahead of a line, and how each line and the end go on from there.
use mathlib.Core.Path.{◌≡◌, refl, sym, ap, ◌∙◌}
use mathlib.Core.Logic.{◌⊎◌, ⊎_elim}
use mathlib.Core.Bool.{Bool, true, false, not}
use mathlib.Core.List.{List, [], ◌∷◌}
use Prim.Native.Nat.{ℕ, suc, ◌+◌, ◌-◌, ◌≤◌, ◌<◌}
use native.Mathlib.Nat.{eq-or-lt_of_le, le_of_suc-le-suc}
use native.Mathlib.Numerals.{add-one}
use native.Mathlib.Omega.{arith}
use borrow.Author.Tests.{lt-ltb, le-ltb}
use lib.Dec.{eqb}
use lib.ListN.{length, take, drop, get_or, length-drop, drop_of_length-le}
use lib.Seq.{drop-cons, get_or-drop}
use Rattle.meaning.specs.Walk.{first}
use Rattle.meaning.proofs.Basics.{went, le_or_lt}
use Rattle.meaning.proofs.Walks.{first-at, first-none}
use Rattle.std.specs.Prelude.{Result, Ok, None, Some}
use Rattle.typed.specs.declared.BadLine.{BadLine}
use Rattle.selectors.specs.Parts.{up_to, later, parts, each, same}
use Rattle.selectors.specs.Dictionary.{is_entry, name_of, ended, line_of}
use Rattle.selectors.specs.Lining.{bad_at, line_at, again, sifts, Sifted, Took, good_for, checked_by, checked_for}
use Rattle.selectors.specs.Sieve.{key_of, holds}
use Rattle.selectors.proofs.Lines.{ReadAs, line-bad}
use Rattle.selectors.proofs.Separating.{each-less}
use Rattle.selectors.proofs.Names.{each_more}

-- ahead of line k, which starts at `at`: the lines from there on, that those above it are good, and that their keys that pass p are in the sieve
pub record Upto (p : ℕ → Bool) (d : List ℕ) (at k : ℕ) (sieve : List ℕ) : Type 0 where
  pub inside : at ≤ length d
  pub rest : parts 10 (drop at d) ≡ drop k (parts 10 d)
  pub good : (j : ℕ) → j < k → good_for p d j ≡ true
  pub sifted : Sifted p d k sieve

-- at first no line is above
pub upto_start : (p : ℕ → Bool) (d sieve : List ℕ) → 64 ≤ length sieve → Upto p d 0 0 sieve
unfolding each
upto_start p d sieve room =
    record {
      inside = omega arith;
      rest = refl;
      good = λ j h. absurd (omega arith);
      sifted = record { entries = record { many = omega arith; sound = refl }; room = room; held = refl };
    }

-- bytes have at most as many line feeds as there are of them
later-most : (s : List ℕ) → length (later 10 s) ≤ length s
unfolding later
later-most [] = omega arith
later-most (x ∷ xs) =
    ⊎_elim
    (λ t. rw t (omega (arith, later-most xs)))
    (λ t. rw t (omega (arith, later-most xs)))
    (went (eqb x 10))

-- behind the last line feed of bytes stands something, if there is none among them
tail_some : (s : List ℕ) → 0 < length s → length (later 10 s) ≡ 0 → same (up_to 10 s) [] ≡ false
unfolding up_to later same
tail_some [] h e = absurd (omega arith)
tail_some (x ∷ xs) h e =
    ⊎_elim
    (λ t. let z : suc (length (later 10 xs)) ≡ 0 = rw t at e in absurd (omega arith))
    (λ t. rw t)
    (went (eqb x 10))

-- a line that is sifted by one sieve is sifted by another that holds its key if the first does
sifts-on : (p : ℕ → Bool) (s t l : List ℕ) → (holds s (key_of (name_of l)) ≡ true → holds t (key_of (name_of l)) ≡ true) → sifts p s l ≡ true → sifts p t l ≡ true
unfolding sifts
sifts-on p s t l kept e =
    ⊎_elim
    (λ y. rw y (kept (rw y at e)))
    (λ o. rw o)
    (went (p (key_of (name_of l))))

-- a line is sifted where its key, if it passes, is held
sifts-here : (p : ℕ → Bool) (t l : List ℕ) → (p (key_of (name_of l)) ≡ true → holds t (key_of (name_of l)) ≡ true) → sifts p t l ≡ true
unfolding sifts
sifts-here p t l put =
    ⊎_elim
    (λ y. rw y (put y))
    (λ o. rw o)
    (went (p (key_of (name_of l))))

module _ {p : ℕ → Bool} {d : List ℕ} {at k : ℕ} {sieve : List ℕ} (u : Upto p d at k sieve) where
  -- line k is what stands from here on up to a line feed
  line-here : line_of d k ≡ up_to 10 (drop at d)
  line-here =
      let e : k + 0 ≡ k = omega arith in
      sym (ap (λ (ls : List (List ℕ)). get_or ls 0 []) u.rest ∙ get_or-drop k (parts 10 d) 0 [] ∙ ap (λ i. get_or (parts 10 d) i []) e)

  -- as many lines are ended from here on as are left of all
  ended_here : suc (length (later 10 (drop at d))) ≡ suc (ended d) - k
  ended_here = ap length u.rest ∙ length-drop k (parts 10 d)

  -- there are at most as many lines above as there are bytes
  pub upto_fits : k ≤ length d
  upto_fits = omega (arith, u.sifted.entries.many, later-most d)

  -- a bad line k is what comes of all
  bad-here : good_for p d k ≡ false → bad_at k ≡ checked_for p d
  unfolding checked_for checked_by
  bad-here b =
      let many = u.sifted.entries.many in
      let found : first (λ i. not (good_for p d i)) 0 (suc (ended d)) ≡ Some k =
      first-at (λ i. not (good_for p d i)) k 0 (suc (ended d)) (omega arith) (omega arith) (rw b) (λ j l h. rw (u.good j h)) in
      rw found

  -- the end: all lines are good
  pub upto_end : length d ≤ at → Ok k ≡ checked_for p d
  unfolding checked_for checked_by good_for up_to later same
  upto_end h =
      let none : drop at d ≡ [] = drop_of_length-le d h in
      let left : 1 ≡ suc (ended d) - k = rw none at ended_here in
      let all : k ≡ ended d = omega (arith, u.sifted.entries.many) in
      let last : good_for p d k ≡ true = rw (le-ltb k (ended d) (omega arith), line-here, none) in
      let at_most : (j : ℕ) → j ≤ k → (j ≡ k) ⊎ (j < k) = λ j l. eq-or-lt_of_le l in
      let found : first (λ i. not (good_for p d i)) 0 (suc (ended d)) ≡ None =
      first-none (λ i. not (good_for p d i)) 0 (suc (ended d))
      (λ j a b. rw (⊎_elim (λ q. ap (good_for p d) q ∙ last) (λ lt. u.good j lt) (at_most j (omega arith)))) in
      rw found (ap {B = Result ℕ BadLine} Ok all)

  -- behind the last line feed stands something, so that the line there is bad
  tail_bad : ended d ≤ k → at < length d → good_for p d k ≡ false
  unfolding good_for
  tail_bad all h =
      let left : length (later 10 (drop at d)) ≡ 0 = omega (arith, ended_here, u.sifted.entries.many) in
      let some : 0 < length (drop at d) = omega (arith, length-drop at d) in
      rw (le-ltb k (ended d) all, line-here) (tail_some (drop at d) some left)

  -- an ended line that is none of the form is no entry, and bad
  entry_bad : k < ended d → line_at d at ≡ None → good_for p d k ≡ false
  unfolding good_for
  entry_bad lt e =
      rw (lt-ltb k (ended d) lt, line-here, no_entry (later 10 (drop at d)) refl)
    where
      no_entry : (ls : List (List ℕ)) → later 10 (drop at d) ≡ ls → is_entry (up_to 10 (drop at d)) ≡ false
      no_entry [] q = let none = ap length q in absurd (omega (arith, ended_here))
      no_entry (l ∷ ls) q = line-bad d at e q

  -- a line that is none of the form: an ended one is no entry, and behind the last line feed stands something
  pub upto_bad : at < length d → line_at d at ≡ None → bad_at k ≡ checked_for p d
  upto_bad h e =
      ⊎_elim
      (λ all. bad-here (tail_bad all h))
      (λ lt. bad-here (entry_bad lt e))
      (le_or_lt (ended d) k)

  module _ {e v next : ℕ} (r : ReadAs d at e v next) where
    -- a line that was read is ended
    line-ended : k < ended d
    line-ended = let more = ap length r.rest in omega (arith, ended_here)

    -- its name is what was cut out
    name-here : name_of (line_of d k) ≡ take (e - at) (drop at d)
    name-here = ap name_of line-here ∙ sym r.name

    -- it is good exactly where its key does not pass, or no line above it has its name
    good_here : good_for p d k ≡ not (again p (take k (parts 10 d)) (take (e - at) (drop at d)))
    unfolding good_for
    good_here = rw (lt-ltb k (ended d) line-ended, name-here, line-here, r.entry)

    -- a line whose key passes, and whose name a line above it has
    pub upto_twice : again p (take k (parts 10 d)) (take (e - at) (drop at d)) ≡ true → bad_at k ≡ checked_for p d
    upto_twice h = bad-here (good_here ∙ ap not h)

    -- any other line, whose key, if it passes, is put in
    pub upto_next : {after : List ℕ} → again p (take k (parts 10 d)) (take (e - at) (drop at d)) ≡ false → Took p (take (e - at) (drop at d)) sieve after → Upto p d next (k + 1) after
    upto_next {after} h t =
        let all = parts 10 d in
        let within : k < length all = omega (arith, line-ended) in
        let split : parts 10 (drop at d) ≡ line_of d k ∷ drop (suc k) all = u.rest ∙ drop-cons all k [] within in
        let behind : later 10 (drop at d) ≡ drop (suc k) all = cc in
        let kept = each-less (sifts p sieve) (sifts p after) (λ l. sifts-on p sieve after l (t.kept (key_of (name_of l)))) (take k all) u.sifted.held in
        let here : sifts p after (line_of d k) ≡ true = sifts-here p after (line_of d k) (rw name-here t.put) in
        let reached : Upto p d next (suc k) after =
        record {
          inside = r.inside;
          rest = r.rest ∙ behind;
          good = λ j l. ⊎_elim (λ e. ap (good_for p d) e ∙ good_here ∙ ap not h) (λ lt. u.good j lt) (below_next j l);
          sifted =
              record {
                entries =
                    record {
                      many = line-ended;
                      sound = each_more is_entry all k [] within u.sifted.entries.sound (ap is_entry line-here ∙ r.entry);
                    };
                room = omega (arith, t.size, u.sifted.room);
                held = each_more (sifts p after) all k [] within kept here;
              };
        } in
        rw add-one reached
      where
        below_next : (j : ℕ) → j < suc k → (j ≡ k) ⊎ (j < k)
        below_next j l = eq-or-lt_of_le (le_of_suc-le-suc l)
