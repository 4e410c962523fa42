-- The laws behind the theorems about the public calls: the ways of a verdict, what a list is stored as, what fits a verdict.
use mathlib.Core.Path.{◌≡◌, refl, sym, ap, ap₂, ◌∙◌}
use mathlib.Core.Logic.{◌↔◌, ◌⊎◌, inl, inr, ⊎_elim}
use mathlib.Core.Bool.{Bool, true, false, cond}
use mathlib.Core.List.{List, [], ◌∷◌, ◌++◌}
use Prim.Native.Nat.{ℕ, zero, suc, ◌+◌, ◌≤◌, ◌<◌}
use native.Mathlib.Omega.{arith}
use lib.Dec.{leb}
use lib.ListN.{length, drop}
use borrow.Author.Tests.{leb-true, le-leb, lt-leb, le-ltb}
use Rattle.meaning.specs.Walk.{Found}
use Rattle.std.specs.Prelude.{Some, None, Result, Ok, Err}
use Rattle.meaning.specs.Reading.{Reading, Accepted, Refused}
use Rattle.meaning.specs.declared.Verdict.TheVariants.{Holds, Fails}
use Rattle.meaning.specs.declared.Refusal.{Refusal}
use Rattle.meaning.specs.declared.Rule.{Rule}
use Rattle.meaning.specs.declared.Verdict.{Verdict}
use Rattle.meaning.specs.Order.{need, and_then}
use Rattle.meaning.specs.Document.{Doc}
use Rattle.meaning.specs.Nodes.{doc_of, read_nodes}
use Rattle.meaning.specs.Rules.{rule_at, rules_of, read_rules}
use Rattle.meaning.specs.Day.{alive, slice, on_days}
use Rattle.meaning.specs.Window.{Window, meets, offends_in, offender_in, windows, judge, in_windows}
use Rattle.meaning.specs.Answer.{referred_by, judged, verdict_after, read_verdict, verdict, storing, lent_after, read_slice, read_changes, sequenced_verdict}
use Rattle.meaning.proofs.Basics.{clear}
use Rattle.meaning.proofs.Orders.{contrary, came, refused_alike}
use Rattle.meaning.proofs.Says.{says}
use Rattle.meaning.proofs.Sound.{Sound}
use Rattle.meaning.proofs.Walks.{first-at}
use Rattle.meaning.proofs.Places.{counted}
use Rattle.meaning.proofs.Picks.{In, in_picked, picked_in}
use Rattle.meaning.proofs.Slices.{Lives, lives, alive-lives, present-alive, slice-alive}
use Rattle.meaning.proofs.Faults.{FirstFault, on-days, holds-none, fails_first}
use Rattle.meaning.proofs.Timetable.{Nth}
use Rattle.meaning.proofs.Windows.{NoFaultIn, FirstFaultIn, none_found}

-- one equivalence after the other
pub through : {A B C : Type 0} → A ↔ B → B ↔ C → A ↔ C
through f g = (λ a. g.0 (f.0 a), λ c. f.1 (g.1 c))

-- The ways of a verdict.
-- a verdict that holds or fails
abbrev Answered : Verdict → Type 0
Answered x = ((n : ℕ) × (x ≡ Holds n)) ⊎ ((d : ℕ) × (v : ℕ) × (n : ℕ) × (x ≡ Fails d v n))

judge-answers : (f : Window → Found) (ws : List Window) (k : ℕ) → Answered (judge f ws k)
unfolding judge
judge-answers f [] k = inl (k, refl)
judge-answers f (w ∷ ws) k = go (f w) refl (judge-answers f ws (suc k))
  where
    go : (x : Found) → f w ≡ x → Answered (judge f ws (suc k)) → Answered (judge f (w ∷ ws) k)
    go (Some v) e ih = inr (w.from, v, suc k, rw e)
    go None e ih = rw e ih

pub windows-answer : (doc : Doc) (q r : Rule) → Answered (in_windows doc q r)
unfolding in_windows
windows-answer doc q r = judge-answers (offender_in doc q r) (windows r) 0

pub days_answer : (doc : Doc) (q r : Rule) → Answered (on_days doc q r)
days_answer doc q r = ⊎_elim (λ w. inl (_, w.1)) (λ w. inr (_, _, _, w.verdict)) (on-days doc q r)

-- what was judged and not refused is had back
pub same_ok : {a b : Verdict} → ◌≡◌ {A = Result Verdict Refusal} (Ok a) (Ok b) → a ≡ b
same_ok e = cc

-- an answer that is what was judged holds or fails
pub answers_so : {x : Result Verdict Refusal} {y : Verdict} → x ≡ Ok y → Answered y
    → ((n : ℕ) × (x ≡ Ok (Holds n))) ⊎ ((d : ℕ) × (v : ℕ) × (n : ℕ) × (x ≡ Ok (Fails d v n)))
answers_so e (inl w) = inl (w.0, e ∙ ap Ok w.1)
answers_so e (inr w) = inr (w.0, w.1, w.2, e ∙ ap Ok w.3)

-- a refusal of an answer of one type is one of an answer of another
refused_as : {A B : Type 0} (why : Refusal) (a b : ℕ) → ◌≡◌ {A = Result A Refusal} (Err why) (Refused a b) → ◌≡◌ {A = Result B Refusal} (Err why) (Refused a b)
refused_as {A} {B} why a b e = let s = refused_alike {A = A} {k = why.number} {i = why.place} e in ap₂ (λ (x y : ℕ). Refused {A = B} x y) s.0 s.1

-- a verdict is refused exactly where the reading before it was
after-refused : (x : Reading) (y : Verdict) (a b : ℕ) → (verdict_after x y ≡ Refused a b) ↔ (x ≡ Refused a b)
after-refused Accepted y a b = (λ e. let z : ◌≡◌ {A = ℕ} 0 1 = cc in absurd (omega arith), λ e. absurd (contrary refl e))
after-refused (Err why) y a b = (refused_as why a b, refused_as why a b)

-- so it is not refused exactly where the reading accepts
as_accepted : (read : Reading) {x : Result Verdict Refusal} → ((a b : ℕ) → (x ≡ Refused a b) ↔ (read ≡ Refused a b)) → ((a b : ℕ) → x ≡ Refused a b → ⊥) ↔ (read ≡ Accepted)
as_accepted read w = (
  λ n. ⊎_elim (λ a. a) (λ r. absurd (n r.0 r.1 ((w r.0 r.1).1 r.2))) (came read),
  λ h a b r. contrary h ((w a b).0 r),
)

-- What a list is stored as.
module _ (list lent : List ℕ) where
  -- refused by the reading before it, or by 12
  storing-refused : (x : Reading) (a b : ℕ) → (storing x list lent ≡ Refused a b) ↔ (and_then x (need (leb (length list) (length lent)) 12 0) ≡ Refused a b)
  unfolding storing
  storing-refused (Err why) a b = (refused_as why a b, refused_as why a b)
  storing-refused Accepted a b = go (leb (length list) (length lent))
    where
      go : (t : Bool) → (cond t (Ok (length list)) (Refused 12 0) ≡ Refused a b) ↔ (need t 12 0 ≡ Refused a b)
      go true = (λ e. let z : ◌≡◌ {A = ℕ} 0 1 = cc in absurd (omega arith), λ e. absurd (contrary refl e))
      go false = (refused_as _ a b, refused_as _ a b)

  -- stored: the reading accepted, and there is room
  storing-stored : (x : Reading) (n : ℕ) → storing x list lent ≡ Ok n → (x ≡ Accepted) × (n ≡ length list) × (n ≤ length lent)
  unfolding storing
  storing-stored (Err why) n e = let z : ◌≡◌ {A = ℕ} 0 1 = cc in absurd (omega arith)
  storing-stored Accepted n e = go (leb (length list) (length lent)) refl e
    where
      go : (t : Bool) → leb (length list) (length lent) ≡ t → cond t (Ok (length list)) (Refused 12 0) ≡ Ok n → (Accepted ≡ Accepted) × (n ≡ length list) × (n ≤ length lent)
      go true h e = let p : length list ≡ n = cc in (refl, sym p, omega (arith, leb-true (length list) (length lent) h))
      go false h e = let z : ◌≡◌ {A = ℕ} 0 1 = cc in absurd (omega arith)

  storing-room : {x : Reading} → x ≡ Accepted → length list ≤ length lent → storing x list lent ≡ Ok (length list)
  unfolding storing
  storing-room e h = rw (e, le-leb (length list) (length lent) h)

-- the answer of a call that stores a list, and the list afterwards
module _ (before : Reading) (list lent : List ℕ) {x : Result ℕ Refusal} {after : List ℕ} (e : x ≡ storing before list lent) (l : after ≡ lent_after (storing before list lent) list lent) where
  pub listed-refused : (a b : ℕ) → (x ≡ Refused a b) ↔ (and_then before (need (leb (length list) (length lent)) 12 0) ≡ Refused a b)
  listed-refused a b = let w = storing-refused list lent before a b in (λ h. w.0 (sym e ∙ h), λ h. e ∙ w.1 h)

  pub listed-stored : (n : ℕ) → x ≡ Ok n → (before ≡ Accepted) × (n ≡ length list) × (n ≤ length lent)
  listed-stored n h = storing-stored list lent before n (sym e ∙ h)

  pub listed-room : before ≡ Accepted → length list ≤ length lent → x ≡ Ok (length list)
  listed-room a h = e ∙ storing-room list lent a h

  pub listed-short : before ≡ Accepted → length lent < length list → x ≡ Refused 12 0
  listed-short a h = (listed-refused 12 0).1 (rw (a, lt-leb (length list) (length lent) h))

  pub listed-early : (a b : ℕ) → before ≡ Refused a b → x ≡ Refused a b
  listed-early a b h = (listed-refused a b).1 (rw h)

  pub listed_kept : (a b : ℕ) → x ≡ Refused a b → after ≡ lent
  listed_kept a b h = l ∙ ap (λ y. lent_after y list lent) (sym e ∙ h)

  pub listed-filled : (n : ℕ) → x ≡ Ok n → after ≡ list ++ drop n lent
  listed-filled n h = l ∙ ap (λ y. lent_after y list lent) (sym e ∙ h)

-- The verdict of two images and a rule number.
module _ (nodes rules : List ℕ) (k : ℕ) where
  pub verdict-read : (read_verdict nodes rules k ≡ Accepted) ↔ ((read_nodes nodes ≡ Accepted) × ((read_rules rules ≡ Accepted) × (k < length (rules_of rules))))
  unfolding read_verdict
  verdict-read = (λ e. simp says at e, λ w. simp says w)

  module _ {x : Result Verdict Refusal} (e : x ≡ verdict nodes rules k) where
    pub verdict-as_read : (a b : ℕ) → (x ≡ Refused a b) ↔ (read_verdict nodes rules k ≡ Refused a b)
    unfolding verdict
    verdict-as_read a b =
        let w = after-refused (read_verdict nodes rules k) (judged (doc_of nodes) (referred_by (rules_of rules) k) (rule_at (rules_of rules) k)) a b in
        (λ h. w.0 (sym e ∙ h), λ h. e ∙ w.1 h)

    pub verdict-nodes : (a b : ℕ) → read_nodes nodes ≡ Refused a b → x ≡ Refused a b
    unfolding read_verdict
    verdict-nodes a b h = (verdict-as_read a b).1 (rw h)

    pub verdict-rules : read_nodes nodes ≡ Accepted → (a b : ℕ) → read_rules rules ≡ Refused a b → x ≡ Refused a b
    unfolding read_verdict
    verdict-rules n a b h = (verdict-as_read a b).1 (rw (n, h))

    pub verdict-none : read_nodes nodes ≡ Accepted → read_rules rules ≡ Accepted → length (rules_of rules) ≤ k → x ≡ Refused 11 0
    unfolding read_verdict
    verdict-none n r h = (verdict-as_read 11 0).1 (rw (n, r, le-ltb k (length (rules_of rules)) h))

    pub verdict-as_judged : read_verdict nodes rules k ≡ Accepted → x ≡ Ok (judged (doc_of nodes) (referred_by (rules_of rules) k) (rule_at (rules_of rules) k))
    unfolding verdict
    verdict-as_judged h = e ∙ rw h

    -- it is not refused exactly where the reading accepts
    pub verdict-given : ((a b : ℕ) → x ≡ Refused a b → ⊥) ↔ (read_verdict nodes rules k ≡ Accepted)
    verdict-given = as_accepted (read_verdict nodes rules k) verdict-as_read

  -- the same on sequenced rules alone
  module _ {x : Result Verdict Refusal} (e : x ≡ sequenced_verdict nodes rules k) where
    pub sequenced-as_read : (a b : ℕ) → (x ≡ Refused a b) ↔ (read_changes nodes rules k ≡ Refused a b)
    unfolding sequenced_verdict
    sequenced-as_read a b =
        let w = after-refused (read_changes nodes rules k) (on_days (doc_of nodes) (referred_by (rules_of rules) k) (rule_at (rules_of rules) k)) a b in
        (λ h. w.0 (sym e ∙ h), λ h. e ∙ w.1 h)

    pub sequenced-given : ((a b : ℕ) → x ≡ Refused a b → ⊥) ↔ (read_changes nodes rules k ≡ Accepted)
    sequenced-given = as_accepted (read_changes nodes rules k) sequenced-as_read

-- The slice of a node image.
module _ (nodes : List ℕ) (d : ℕ) where
  pub slice-read : (read_slice nodes d ≡ Accepted) ↔ ((read_nodes nodes ≡ Accepted) × (d ≤ 36524))
  unfolding read_slice
  slice-read = (λ e. simp says at e, λ w. simp says w)

  pub slice-read_nodes : (a b : ℕ) → read_nodes nodes ≡ Refused a b → read_slice nodes d ≡ Refused a b
  unfolding read_slice
  slice-read_nodes a b h = rw h

  pub slice-read_late : read_nodes nodes ≡ Accepted → 36524 < d → read_slice nodes d ≡ Refused 11 0
  unfolding read_slice
  slice-read_late n h = rw (n, lt-leb d 36524 h)

-- What a verdict shows is the only thing that fits.
module _ (doc : Doc) (q r : Rule) where
  -- there is one first day with an offender, and one lowest offender of it
  fault_unique : {d v c u : ℕ} → FirstFault doc q r d v → FirstFault doc q r c u → (d ≡ c) × (v ≡ u)
  fault_unique {d} {v} {c} {u} f g =
      let not-before : d < c → ⊥ = λ h. clear f.offence (g.first_day d v f.from h f.here) in
      let not_after : c < d → ⊥ = λ h. clear g.offence (f.first_day c u g.from h g.here) in
      let same : d ≡ c = omega arith in
      let not_lower : v < u → ⊥ = λ h. clear f.offence (rw same (g.lowest v h)) in
      let not-higher : u < v → ⊥ = λ h. clear g.offence (rw (sym same) (f.lowest u h)) in
      (same, omega arith)

  pub first-fails : (d v : ℕ) → FirstFault doc q r d v → (n : ℕ) × (on_days doc q r ≡ Fails d v n)
  first-fails d v f =
      ⊎_elim
      (λ w. absurd (clear f.offence ((holds-none doc q r w.0 w.1).0 d v f.from f.below f.here)))
      (λ w.
      let s = fault_unique (fails_first doc q r w.0 w.1 w.2 w.3).0 f in
      (w.2, w.3 ∙ ap₂ (λ (c u : ℕ). Fails c u w.2) s.0 s.1))
      (days_answer doc q r)

  -- windows without an offender are passed over, up to one that has
  judge-up_to : (ws : List Window) (i : ℕ) (w : Window) (k v : ℕ) → Nth ws i w → ((j : ℕ) (x : Window) → j < i → Nth ws j x → NoFaultIn doc q r x)
      → offender_in doc q r w ≡ Some v → judge (offender_in doc q r) ws k ≡ Fails w.from v (suc (i + k))
  unfolding judge
  judge-up_to [] i w k v here none e = absurd here
  judge-up_to (b ∷ bs) zero w k v here none e = rw (here, e) (ap (Fails w.from v) (omega arith))
  judge-up_to (b ∷ bs) (suc i) w k v here none e =
      let clear-window : offender_in doc q r b ≡ None = none_found doc q r b (none 0 b (omega arith) refl) in
      rw clear-window (judge-up_to bs i w (suc k) v here (λ j x l h. none (suc j) x (omega arith) h) e ∙ ap (Fails w.from v) (omega arith))

  pub first-fails_in : (d v n : ℕ) → FirstFaultIn doc q r d v n → in_windows doc q r ≡ Fails d v n
  unfolding in_windows offender_in
  first-fails_in d v n f =
      let w = f.window in
      let e : offender_in doc q r w ≡ Some v = first-at (offends_in doc (meets doc w) w q r) v 0 doc.size (omega arith) (omega (arith, f.here)) f.offence (λ u a b. f.lowest u b) in
      judge-up_to (windows r) f.earlier w 0 v f.placed f.first_window e
      ∙ ap₂ (λ (c m : ℕ). Fails c v m) f.start (omega (arith, f.counted))

-- The slice of a sound document.
pub alive-listed : (doc : Doc) → Sound doc → (d v : ℕ) → In (slice doc d) v ↔ Lives doc d v
alive-listed doc s d v =
    rw (slice-alive doc (present-alive doc s) d) (
      λ w. lives doc d v (in_picked (alive doc d) 0 doc.size v w).passes,
      λ l. picked_in (alive doc d) 0 doc.size v (record { from = omega arith; below = omega (arith, counted doc v (omega (arith, l.kind))); passes = alive-lives doc d v l }),
    )
