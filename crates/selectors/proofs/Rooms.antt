-- How long the line on a selector can be: at most 62 bytes for a path, 50 for a refusal.
use Rattle.std.specs.Prelude.{Err, Ok, Result}
use mathlib.Core.Path.{◌≡◌, refl}
use mathlib.Core.Logic.{⊎_elim}
use mathlib.Core.List.{List, [], ◌∷◌}
use Prim.Native.Nat.{ℕ, zero, suc, ◌+◌, ◌*◌, ◌/◌, ◌%◌, ◌^◌, ◌≤◌, ◌<◌}
use native.Mathlib.Omega.{arith}
use mir.Syntax.{w16}
use mir.Val.{Fits}
use lib.Dec.{ltb}
use lib.ListN.{length, get_or, length-append}
use borrow.Author.Tests.{lt-ltb}
use Rattle.meaning.specs.Answer.{Told}
use Rattle.meaning.proofs.Basics.{went}
use Rattle.spelling.specs.Spelled.{word, digits_of, decimal, spaced}
use Rattle.spelling.proofs.Rooms.{refused_room}
use Rattle.meaning.specs.declared.Refusal.{Refusal}
use Rattle.selectors.specs.Selecting.{Comes, tell_selected}
use Rattle.selectors.specs.Told.{spaced_all, selector_line}
use Rattle.selectors.proofs.Filling.{few-steps}
use Rattle.selectors.proofs.Grounds.{reads}

-- a number below a power of ten has no more digits than its exponent
few-digits : (f k n : ℕ) → n < 10 ^ suc k → length (digits_of f n) ≤ suc k
unfolding digits_of
few-digits zero k n h = omega arith
few-digits (suc f) zero n h = rw (lt-ltb n 10 (omega arith)) (omega arith)
few-digits (suc f) (suc k) n h =
    ⊎_elim
    (λ e. rw e (omega arith))
    (λ e. rw e (omega (arith, length-append (digits_of f (n / 10)) ((48 + n % 10) ∷ []), few-digits f k (n / 10) (omega arith))))
    (went (ltb n 10))

-- numbers of sixteen bits take at most six bytes each
spaced-room : (l : List ℕ) → ((k : ℕ) → get_or l k 0 < 65536) → length (spaced_all l) ≤ 6 * length l
unfolding spaced_all decimal
spaced-room [] h = omega arith
spaced-room (x ∷ l) h =
    let d : length (decimal x) ≤ 5 = few-digits 20 4 x (omega (arith, h 0)) in
    omega (arith, length-append (spaced x) (spaced_all l), spaced-room l (λ k. h (suc k)))

-- a path of at most eight steps has a line of at most 62 bytes
path_room : (n : ℕ) (numbers : List ℕ) → n ≤ 8 → length (spaced_all numbers) ≤ 48 → length (selector_line (Ok n) numbers) ≤ 62
unfolding selector_line word decimal
path_room n numbers few h =
    let digit : length (decimal n) ≤ 1 = few-digits 20 0 n (omega arith) in
    simp length-append (omega arith)

-- the length that is told of a path is at most eight
told-few : {text d : List ℕ} {told : Told} {numbers : List ℕ} (n : ℕ) → Comes text d told numbers → told ≡ tell_selected (Ok n) → n ≤ 8
told-few {text} n c e = let r = reads c e in omega (arith, r.many, few-steps text r.accepts.inside)

-- the line on what comes of a text and a dictionary has at most 62 bytes
pub selector_room : {text d : List ℕ} (answer : Result ℕ Refusal) {numbers : List ℕ} → Comes text d (tell_selected answer) numbers → length numbers ≡ 8 → ((k : ℕ) → Fits w16 (get_or numbers k 0))
    → length (selector_line answer numbers) ≤ 62
unfolding selector_line tell_selected
selector_room (Ok n) {numbers} c l h = path_room n numbers (told-few n c refl) (omega (arith, spaced-room numbers (λ k. (h k).fits)))
selector_room (Err why) c l h = omega (arith, refused_room why.number why.place)
