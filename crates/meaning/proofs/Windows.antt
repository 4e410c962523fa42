-- What a verdict in windows says: holds exactly where no record offends in any window, else the first window's start and its lowest offender.
use mathlib.Core.Path.{◌≡◌, refl, ap, sym, ◌∙◌}
use mathlib.Core.Bool.{true, false}
use mathlib.Core.List.{List, [], ◌∷◌}
use Prim.Native.Nat.{ℕ, zero, suc, ◌+◌, ◌<◌}
use native.Mathlib.Omega.{arith}
use native.Mathlib.Nat.{add-zero}
use lib.ListN.{length}
use Rattle.meaning.specs.declared.Rule.{Rule}
use Rattle.meaning.specs.Walk.{Found}
use Rattle.std.specs.Prelude.{Some, None}
use Rattle.meaning.specs.declared.Verdict.TheVariants.{Holds, Fails}
use Rattle.meaning.specs.Document.{Doc}
use Rattle.meaning.specs.Window.{Window, meets, offends_in, offender_in, windows, judge, in_windows}
use Rattle.meaning.proofs.Timetable.{Nth}
use Rattle.meaning.proofs.Walks.{first_found, first-nothing, first-none}

-- nothing is found in any of the windows
abbrev pub Clear : (Window → Found) → List Window → Type 0
Clear f ws = (j : ℕ) (w : Window) → Nth ws j w → f w ≡ None

-- nothing is found in the first n of them
abbrev pub ClearBefore : (Window → Found) → List Window → ℕ → Type 0
ClearBefore f ws n = (j : ℕ) (w : Window) → j < n → Nth ws j w → f w ≡ None

-- the first window in which something is found, and how many came before it
pub record FirstWindow (f : Window → Found) (ws : List Window) (k d v n : ℕ) : Type 0 where
  pub window : Window
  pub earlier : ℕ
  pub placed : Nth ws earlier window
  pub none : ClearBefore f ws earlier
  pub found_there : f window ≡ Some v
  pub start : window.from ≡ d
  pub counted : n ≡ suc (earlier + k)

module _ (f : Window → Found) where
  -- one window, with an offender or without
  on-hit : (w : Window) (ws : List Window) (k v : ℕ) → f w ≡ Some v → judge f (w ∷ ws) k ≡ Fails w.from v (suc k)
  unfolding judge
  on-hit w ws k v e = rw e

  on-miss : (w : Window) (ws : List Window) (k : ℕ) → f w ≡ None → judge f (w ∷ ws) k ≡ judge f ws (suc k)
  unfolding judge
  on-miss w ws k e = rw e

  -- nothing is found in one window more
  clear-more : (x : Window) (ws : List Window) → f x ≡ None → Clear f ws → Clear f (x ∷ ws)
  clear-more x ws e c zero w h = ap f (sym h) ∙ e
  clear-more x ws e c (suc j) w h = c j w h

  before_more : (x : Window) (ws : List Window) (n : ℕ) → f x ≡ None → ClearBefore f ws n → ClearBefore f (x ∷ ws) (suc n)
  before_more x ws n e c zero w l h = ap f (sym h) ∙ e
  before_more x ws n e c (suc j) w l h = c j w (omega arith) h

  pub judge-holds : (ws : List Window) (k n : ℕ) → judge f ws k ≡ Holds n → Clear f ws × (n ≡ length ws + k)
  unfolding judge
  judge-holds [] k n e = (λ j w h. absurd h, let p : k ≡ n = cc in omega arith)
  judge-holds (w ∷ ws) k n e = go (f w) refl (judge-holds ws (suc k) n)
    where
      go : (x : Found) → f w ≡ x → (judge f ws (suc k) ≡ Holds n → Clear f ws × (n ≡ length ws + suc k)) → Clear f (w ∷ ws) × (n ≡ suc (length ws) + k)
      go (Some v) x ih = let p : Fails w.from v (suc k) ≡ Holds n = sym (on-hit w ws k v x) ∙ e in let z : ◌≡◌ {A = ℕ} 0 1 = cc in absurd (omega arith)
      go None x ih = let c = ih (sym (on-miss w ws k x) ∙ e) in (clear-more w ws x c.0, omega (arith, c.1))

  pub clear-holds : (ws : List Window) (k : ℕ) → Clear f ws → judge f ws k ≡ Holds (length ws + k)
  unfolding judge
  clear-holds [] k c = ap Holds (omega arith)
  clear-holds (w ∷ ws) k c = on-miss w ws k (c 0 w refl) ∙ clear-holds ws (suc k) (λ j x h. c (suc j) x h) ∙ ap Holds (omega arith)

  pub judge-fails : (ws : List Window) (k d v n : ℕ) → judge f ws k ≡ Fails d v n → FirstWindow f ws k d v n
  unfolding judge
  judge-fails [] k d v n e = let z : ◌≡◌ {A = ℕ} 0 1 = cc in absurd (omega arith)
  judge-fails (w ∷ ws) k d v n e = go (f w) refl (judge-fails ws (suc k) d v n)
    where
      go : (x : Found) → f w ≡ x → (judge f ws (suc k) ≡ Fails d v n → FirstWindow f ws (suc k) d v n) → FirstWindow f (w ∷ ws) k d v n
      go (Some u) x ih =
          let p : Fails w.from u (suc k) ≡ Fails d v n = sym (on-hit w ws k u x) ∙ e in
          let q : u ≡ v = cc in
          let m : suc k ≡ n = cc in
          record { window = w; earlier = 0; placed = refl; none = λ j y l h. absurd (omega arith); found_there = x ∙ ap Some q; start = cc; counted = omega arith }
      go None x ih =
          let c = ih (sym (on-miss w ws k x) ∙ e) in
          record {
            window = c.window;
            earlier = suc c.earlier;
            placed = c.placed;
            none = before_more w ws c.earlier x c.none;
            found_there = c.found_there;
            start = c.start;
            counted = omega (arith, c.counted);
          }

-- no record offends in a window
abbrev pub NoFaultIn : Doc → Rule → Rule → Window → Type 0
NoFaultIn doc q r w = (v : ℕ) → v < doc.size → offends_in doc (meets doc w) w q r v ≡ false

-- nor in any of the windows
abbrev pub NoFaultAmong : Doc → Rule → Rule → List Window → Type 0
NoFaultAmong doc q r ws = (j : ℕ) (w : Window) → Nth ws j w → NoFaultIn doc q r w

-- v offends in a window of the rule that starts on d, no lower record does, and none in an earlier window; n windows end with it
pub record FirstFaultIn (doc : Doc) (q r : Rule) (d v n : ℕ) : Type 0 where
  pub window : Window
  pub earlier : ℕ
  pub placed : Nth (windows r) earlier window
  pub start : window.from ≡ d
  pub counted : n ≡ suc earlier
  pub here : v < doc.size
  pub offence : offends_in doc (meets doc window) window q r v ≡ true
  pub lowest : (u : ℕ) → u < v → offends_in doc (meets doc window) window q r u ≡ false
  pub first_window : (j : ℕ) (w : Window) → j < earlier → Nth (windows r) j w → NoFaultIn doc q r w

module _ (doc : Doc) (q r : Rule) where
  none_in : (w : Window) → offender_in doc q r w ≡ None → NoFaultIn doc q r w
  unfolding offender_in
  none_in w e v h = first-nothing (offends_in doc (meets doc w) w q r) 0 doc.size e v (omega arith) (omega arith)

  pub none_found : (w : Window) → NoFaultIn doc q r w → offender_in doc q r w ≡ None
  unfolding offender_in
  none_found w h = first-none (offends_in doc (meets doc w) w q r) 0 doc.size (λ v a b. h v (omega arith))

  pub holds-none_in : (n : ℕ) → in_windows doc q r ≡ Holds n → NoFaultAmong doc q r (windows r) × (n ≡ length (windows r))
  unfolding in_windows
  holds-none_in n e = let c = judge-holds (offender_in doc q r) (windows r) 0 n e in (λ j w p. none_in w (c.0 j w p), omega (arith, c.1))

  pub none-holds_in : NoFaultAmong doc q r (windows r) → in_windows doc q r ≡ Holds (length (windows r))
  unfolding in_windows
  none-holds_in h = clear-holds (offender_in doc q r) (windows r) 0 (λ j w p. none_found w (h j w p)) ∙ ap Holds (add-zero _)

  pub fails_first_in : (d v n : ℕ) → in_windows doc q r ≡ Fails d v n → FirstFaultIn doc q r d v n
  unfolding in_windows offender_in
  fails_first_in d v n e =
      let c = judge-fails (offender_in doc q r) (windows r) 0 d v n e in
      let o = first_found (offends_in doc (meets doc c.window) c.window q r) 0 doc.size v c.found_there in
      record {
        window = c.window;
        earlier = c.earlier;
        placed = c.placed;
        start = c.start;
        counted = omega (arith, c.counted);
        here = omega (arith, o.below);
        offence = o.passes;
        lowest = λ u h. o.before u (omega arith) h;
        first_window = λ j w l p. none_in w (c.none j w l p);
      }
