-- One line of a dictionary: a name, a space, a number and a line feed; where it is read as an entry, and where it is not.
use mathlib.Core.Path.{◌≡◌, refl, sym, ap, subst, ◌∙◌}
use mathlib.Core.Logic.{⊎_elim}
use mathlib.Core.Bool.{Bool, true, false, ◌&&◌}
use mathlib.Core.List.{List, [], ◌∷◌, ◌++◌, append_assoc}
use Prim.Native.Nat.{ℕ, ◌+◌, ◌-◌, ◌≤◌, ◌<◌}
use native.Mathlib.Omega.{arith}
use borrow.Author.Tests.{leb-true, le-leb}
use lib.Dec.{leb}
use lib.ListN.{length, take, drop}
use lib.Seq.{take_at}
use Rattle.meaning.proofs.Basics.{went, never, clear, and_l, and_r, both}
use Rattle.std.specs.Prelude.{Option, Some, None}
use Rattle.typed.specs.Numeral.{is_digit, stands, number_at}
use Rattle.selectors.specs.declared.dictionary.Entry.{Entry}
use Rattle.selectors.specs.Parts.{up_to, later, parts, each}
use Rattle.selectors.specs.Profile.{is_letter, is_inner, is_name}
use Rattle.selectors.specs.Dictionary.{spelt, is_number, is_pair, is_entry, name_of, number_of}
use Rattle.selectors.specs.Lining.{run, begins, on_number, line_at}
use Rattle.selectors.proofs.Separating.{other, each-other, each-joined, first-joined, later-joined, first-all, later-all, later-none, later-some}
use Rattle.selectors.proofs.Places.{behind_front, behind_byte, next-stands, stands-next}
use Rattle.selectors.proofs.Runs.{name-inner, inner_name, begins-run, name-begins, run-ended, run-front}
use Rattle.selectors.proofs.Spelling.{number-spells, plain_number, number-scanned, number-found}

-- a space is in no name
space_apart : is_inner 32 ≡ false
unfolding is_inner is_letter
space_apart = refl

-- nor is a line feed
feed_apart : is_inner 10 ≡ false
unfolding is_inner is_letter
feed_apart = refl

-- a line as a name, a space and a number
pub record Paired (l : List ℕ) : Type 0 where
  pub name : List ℕ
  pub digits : List ℕ
  pub joined : l ≡ name ++ (32 ∷ digits)
  pub named : is_name name ≡ true
  pub numbered : is_number digits ≡ true

module _ (name digits : List ℕ) (named : is_name name ≡ true) (numbered : is_number digits ≡ true) where
  -- the parts of such a line
  pair_parts : parts 32 (name ++ (32 ∷ digits)) ≡ name ∷ digits ∷ []
  pair_parts =
      let free = each-other is_inner 32 space_apart name (name-inner name named) in
      let last = each-other is_digit 32 refl digits (number-spells digits numbered).digits in
      simp (first-joined 32 name digits free, later-joined 32 name digits free, first-all 32 digits last, later-all 32 digits last)

  -- it is an entry
  pub pair-entry : is_entry (name ++ (32 ∷ digits)) ≡ true
  unfolding is_entry is_pair
  pair-entry = rw pair_parts (both (is_name name) (is_number digits) named numbered)

  -- with the number that its digits spell
  pub pair-number : number_of (name ++ (32 ∷ digits)) ≡ spelt 0 digits
  unfolding number_of
  pair-number = rw pair_parts

  -- no byte of it is a line feed
  pub pair-free : each (other 10) (name ++ (32 ∷ digits)) ≡ true
  unfolding each
  pair-free =
      each-joined (other 10) name (32 ∷ digits)
      (each-other is_inner 10 feed_apart name (name-inner name named))
      (each-other is_digit 10 refl digits (number-spells digits numbered).digits)

-- every entry is such a line
pub entry_paired : (l : List ℕ) → is_entry l ≡ true → Paired l
unfolding is_entry is_pair
entry_paired l e = go (later 32 l) refl e
  where
    go : (ls : List (List ℕ)) → later 32 l ≡ ls → is_pair (up_to 32 l ∷ ls) ≡ true → Paired l
    go [] q p = absurd (clear p refl)
    go (digits ∷ []) q p =
        let cut = later-some 32 l q in
        let alone : later 32 cut.rest ≡ [] = let b = cut.behind in cc in
        let is : cut.rest ≡ digits = let b = cut.behind in let a = later-none 32 cut.rest alone in cc in
        record {
          name = up_to 32 l;
          digits = digits;
          joined = cut.joined ∙ ap (λ r. up_to 32 l ++ (32 ∷ r)) is;
          named = and_l (is_name (up_to 32 l)) (is_number digits) p;
          numbered = and_r (is_name (up_to 32 l)) (is_number digits) p;
        }
    go (digits ∷ more ∷ ls) q p = absurd (clear p refl)

-- an entry gives a number from 1 to 65,534
pub number-range : (l : List ℕ) → is_entry l ≡ true → (1 ≤ number_of l) × (number_of l ≤ 65534)
number-range l e =
    let p = entry_paired l e in
    let s = number-spells p.digits p.numbered in
    let q : number_of l ≡ spelt 0 p.digits = ap number_of p.joined ∙ pair-number p.name p.digits p.named p.numbered in
    rw q (s.least, s.most)

-- a line that was read: from the place at which it begins to the end of its name, its number, and the place behind its line feed
record Laid (d : List ℕ) (at e v next : ℕ) : Type 0 where
  name : List ℕ
  digits : List ℕ
  joined : drop at d ≡ name ++ (32 ∷ (digits ++ (10 ∷ drop next d)))
  named : is_name name ≡ true
  numbered : is_number digits ≡ true
  some : 1 ≤ length name
  ends : e ≡ at + length name
  value : v ≡ spelt 0 digits
  goes : next ≡ e + 1 + length digits + 1
  inside : next ≤ length d

module _ (d : List ℕ) (at : ℕ) where
  -- each test of the code passed
  line-found :
      {e v next : ℕ} → e ≡ at + run (drop at d) → begins (drop at d) ≡ true → stands d e 32 ≡ true → number_at d (e + 1) 65534 10 ≡ Some (v, next) → 1 ≤ v → Laid d at e v next
  line-found {e} {v} {next} ends b s n least =
      let r = run-front (drop at d) in
      let m = number-scanned d (e + 1) n in
      let size : 1 ≤ length r.front = omega (arith, begins-run (drop at d) b, r.size) in
      let place : at + length r.front ≡ e = omega (arith, r.size) in
      let back : r.back ≡ 32 ∷ (m.front ++ (10 ∷ drop next d)) =
      sym (behind_front d at r.front r.joined) ∙ ap (λ k. drop k d) place ∙ stands-next d e s ∙ ap (λ l. 32 ∷ l) m.joined
      in
      record {
        name = r.front;
        digits = m.front;
        joined = r.joined ∙ ap (λ l. r.front ++ l) back;
        named = inner_name r.front r.back (rw r.joined at b) size r.passing;
        numbered =
            plain_number d (e + 1) m.front (10 ∷ drop next d) m.joined m.plain
            (record { digits = m.passing; least = omega (arith, m.value); most = omega (arith, m.value, m.most) });
        some = size;
        ends = sym place;
        value = m.value;
        goes = m.next;
        inside = m.inside;
      }

  -- an entry was read as one
  line-entry : {l : Entry} → line_at d at ≡ Some l → Laid d at l.end l.number l.next
  unfolding line_at
  line-entry {l} q =
      ⊎_elim
      (λ t. number (number_at d (end + 1) 65534 10) refl (and_l first space t) (and_r first space t) (rw t at q))
      (λ t. let wrong : None ≡ Some l = rw t at q in let z : ◌≡◌ {A = ℕ} 0 1 = cc in absurd (omega arith))
      (went (first && space))
    where
      end : ℕ
      end = at + run (drop at d)

      first : Bool
      first = begins (drop at d)

      space : Bool
      space = stands d end 32

      number : (s : Option (ℕ × ℕ)) → number_at d (end + 1) 65534 10 ≡ s → first ≡ true → space ≡ true → on_number end s ≡ Some l → Laid d at l.end l.number l.next
      number (Some (w, n)) f b s g =
          ⊎_elim
          (λ t.
          let is : ◌≡◌ {A = Option Entry} (Some (record { end = end; number = w; next = n })) (Some l) = rw t at g in
          let same : ◌≡◌ {A = Entry} (record { end = end; number = w; next = n }) l = cc in
          subst (λ (x : Entry). Laid d at x.end x.number x.next) same (line-found refl b s f (leb-true 1 w t)))
          (λ t. let wrong : None ≡ Some l = rw t at g in let z : ◌≡◌ {A = ℕ} 0 1 = cc in absurd (omega arith))
          (went (leb 1 w))
      number None f b s g = let wrong : ◌≡◌ {A = ℕ} 0 1 = cc in absurd (omega arith)

-- what a line that was read as an entry is: its bounds, its name, its number, and the lines behind it
pub record ReadAs (d : List ℕ) (at e v next : ℕ) : Type 0 where
  pub begun : at < e
  pub before : e < next
  pub inside : next ≤ length d
  pub entry : is_entry (up_to 10 (drop at d)) ≡ true
  pub name : take (e - at) (drop at d) ≡ name_of (up_to 10 (drop at d))
  pub number : number_of (up_to 10 (drop at d)) ≡ v
  pub rest : parts 10 (drop next d) ≡ later 10 (drop at d)

-- a line that was read as an entry is one
pub line_read : (d : List ℕ) (at : ℕ) {line : Entry} → line_at d at ≡ Some line → ReadAs d at line.end line.number line.next
line_read d at {line} q =
    let e = line.end in
    let v = line.number in
    let next = line.next in
    let l = line-entry d at q in
    let whole = l.name ++ (32 ∷ l.digits) in
    let free = pair-free l.name l.digits l.named l.numbered in
    let joined : drop at d ≡ whole ++ (10 ∷ drop next d) = l.joined ∙ sym (append_assoc l.name (32 ∷ l.digits) (10 ∷ drop next d)) in
    let text : up_to 10 (drop at d) ≡ whole = ap (up_to 10) joined ∙ first-joined 10 whole (drop next d) free in
    let size : length l.name ≡ e - at = omega (arith, l.ends) in
    let apart = each-other is_inner 32 space_apart l.name (name-inner l.name l.named) in
    record {
      begun = omega (arith, l.some, l.ends);
      before = omega (arith, l.goes);
      inside = l.inside;
      entry = ap is_entry text ∙ pair-entry l.name l.digits l.named l.numbered;
      name =
          ap (take (e - at)) l.joined
          ∙ take_at l.name (32 ∷ (l.digits ++ (10 ∷ drop next d))) (e - at) size
          ∙ sym (ap name_of text ∙ first-joined 32 l.name l.digits apart);
      number = ap number_of text ∙ pair-number l.name l.digits l.named l.numbered ∙ sym l.value;
      rest = sym (ap (later 10) joined ∙ later-joined 10 whole (drop next d) free);
    }

module _ (d : List ℕ) (at : ℕ) where
  -- a name, a space, a number and a line feed are read as an entry
  pair_read :
      (name digits rest : List ℕ) → drop at d ≡ name ++ (32 ∷ (digits ++ (10 ∷ rest))) → is_name name ≡ true → is_number digits ≡ true
      → line_at d at ≡ Some (record { end = at + length name; number = spelt 0 digits; next = at + length name + 1 + length digits + 1 })
  unfolding line_at
  pair_read name digits rest q named numbered =
      let b : begins (drop at d) ≡ true = ap begins q ∙ name-begins name (32 ∷ (digits ++ (10 ∷ rest))) named in
      let r : run (drop at d) ≡ length name = ap run q ∙ run-ended name 32 (digits ++ (10 ∷ rest)) (name-inner name named) space_apart in
      let space = behind_front d at name q in
      let s : stands d (at + length name) 32 ≡ true = next-stands d (at + length name) space in
      let n = number-found d (at + length name + 1) digits rest (behind_byte d (at + length name) space) numbered in
      rw (r, b, s, n, le-leb 1 (spelt 0 digits) (number-spells digits numbered).least)

-- a line with a line feed that was not read as an entry is none
pub line-bad : (d : List ℕ) (at : ℕ) → line_at d at ≡ None → {l : List ℕ} {ls : List (List ℕ)} → later 10 (drop at d) ≡ l ∷ ls → is_entry (up_to 10 (drop at d)) ≡ false
line-bad d at bad more =
    never (is_entry (up_to 10 (drop at d)))
    (λ t.
    let p = entry_paired (up_to 10 (drop at d)) t in
    let cut = later-some 10 (drop at d) more in
    let joined : drop at d ≡ p.name ++ (32 ∷ (p.digits ++ (10 ∷ cut.rest))) =
    cut.joined ∙ ap (λ s. s ++ (10 ∷ cut.rest)) p.joined ∙ append_assoc p.name (32 ∷ p.digits) (10 ∷ cut.rest)
    in
    let read = pair_read d at p.name p.digits cut.rest joined p.named p.numbered in
    let z : ◌≡◌ {A = ℕ} 0 1 = cc in
    omega arith)

-- the ways through the reading of a line, each test by what it gave
module _ (d : List ℕ) (at : ℕ) where
  -- no name begins there
  pub line-unbegun : begins (drop at d) ≡ false → None ≡ line_at d at
  unfolding line_at
  line-unbegun b = rw b

  module _ {e : ℕ} (ends : e ≡ at + run (drop at d)) (b : begins (drop at d) ≡ true) where
    -- no space stands behind the name
    pub line-unspaced : stands d e 32 ≡ false → None ≡ line_at d at
    unfolding line_at
    line-unspaced s = rw (← ends, b, s)

    module _ (s : stands d e 32 ≡ true) where
      -- no number stands behind the space
      pub line-unnumbered : number_at d (e + 1) 65534 10 ≡ None → None ≡ line_at d at
      unfolding line_at
      line-unnumbered n = rw (← ends, b, s, n)

      -- the number is 0
      pub line-zero : {v next : ℕ} → number_at d (e + 1) 65534 10 ≡ Some (v, next) → v ≡ 0 → None ≡ line_at d at
      unfolding line_at
      line-zero {v} n z = rw (← ends, b, s, n, z)

      -- all are there
      pub line-whole : {v next : ℕ} → number_at d (e + 1) 65534 10 ≡ Some (v, next) → (v ≡ 0 → ⊥) → ◌≡◌ {A = Option Entry} (Some (record { end = e; number = v; next = next })) (line_at d at)
      unfolding line_at
      line-whole {v} n z = rw (← ends, b, s, n, le-leb 1 v (omega arith))
