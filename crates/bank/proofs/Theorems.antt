-- The three demands as theorems about the public calls `verdict`, `slice` and `change_days`, what holds of `write_nodes`, and that the plain engine answers alike, each statement to be read by itself.
use mathlib.Core.Path.{◌≡◌, refl, sym, ap, ◌∙◌}
use mathlib.Core.Bool.{true}
use mathlib.Core.Logic.{◌↔◌, ◌⊎◌}
use mathlib.Core.List.{List, ◌++◌}
use Prim.Native.Nat.{ℕ, ◌+◌, ◌*◌, ◌≤◌, ◌<◌}
use native.Mathlib.Omega.{arith}
use lib.Dec.{leb}
use lib.IntN.{pos}
use borrow.Author.Tests.{eq-eqb}
use lib.ListN.{length, take, drop}
use Rattle.meaning.specs.Block.{node_form, limit, blocks_for}
use Rattle.meaning.specs.declared.Rule.{Rule}
use Rattle.meaning.specs.Reading.{Accepted, Refused}
use Rattle.meaning.specs.declared.Verdict.TheVariants.{Holds, Fails}
use Rattle.std.specs.Prelude.{Result, Ok}
use Rattle.meaning.specs.declared.Refusal.{Refusal}
use Rattle.meaning.specs.declared.Verdict.{Verdict}
use Rattle.meaning.specs.Order.{need, and_then}
use Rattle.meaning.specs.Document.{Doc, of_nodes}
use Rattle.meaning.specs.Nodes.{nodes_of, doc_of, read_nodes, image_of}
use Rattle.meaning.specs.Lent.{Lent, lent, nodes_lent}
use Rattle.meaning.specs.Rules.{rule_at, rules_of, read_rules}
use Rattle.meaning.specs.Walk.{count, pick}
use Rattle.meaning.specs.Select.{reads}
use Rattle.meaning.specs.Day.{alive, slice, offender, on_days}
use Rattle.meaning.specs.Window.{Window, shortened, windows}
use Rattle.meaning.specs.Answer.{referred_by, judged, verdict, read_verdict, slice_answer, slice_lent, read_slice, changes_of, changes_answer, changes_lent, read_changes, sequenced_verdict, read_write, write_answer}
use Rattle.meaning.proofs.Unique as Unique
use Rattle.meaning.proofs.Sound.{SoundNodes, SoundRules}
use Rattle.meaning.proofs.Lines.{FirstDue, refused_exactly}
use Rattle.meaning.proofs.Due.{verdict_lines, slice_lines, changes_lines}
use Rattle.meaning.proofs.Theorems.{nodes_accepted, rules_accepted, verdict-refused, slice-refused, changes_refused, fails_on_days, fails_in_windows, which_windows, enough-days}
use Rattle.meaning.proofs.Accepted.{sound-accepted}
use Rattle.meaning.proofs.Picks.{Ascending, In, pick-ascends}
use Rattle.meaning.proofs.Slices.{Lives}
use Rattle.meaning.proofs.Over.{over}
use Rattle.meaning.proofs.Rooms.{slice-most, days_most}
use Rattle.meaning.proofs.Changes.{ChangeDay, AtPlace}
use Rattle.meaning.proofs.Faults.{NoFault, FirstFault}
use Rattle.meaning.proofs.Timetable.{Nth, IsWindow}
use Rattle.meaning.proofs.Windows.{NoFaultAmong, FirstFaultIn}
use Rattle.meaning.proofs.Sequenced.{sequenced-same}
use Rattle.meaning.proofs.Before.{verdict_before}
use Rattle.meaning.proofs.Sparing.{PastEnd, Untouched, shortened-where, verdict-same, verdict-holds}
use Rattle.meaning.proofs.Nils.{WantsKnown, NilFreeDays, NilFreeWindows, holds-nil_free, holds-nil_free_in}
use Rattle.meaning.proofs.BeforeNils.{read_nodes_was, verdict_was, slice_answer_was, slice_lent_was, changes_answer_was, changes_lent_was, sequenced_verdict_was, write_answer_was, write_image_was}
use Rattle.meaning.proofs.Nilless.{NoNils, verdict-as_was, slice-as_was, slice-left_as_was, changes_as_was, changes_left_as_was, sequenced-as_was, write_as_was, written_as_was, was_nilless, still_accepted}
use Rattle.meaning.proofs.Slices as Slices
use Rattle.meaning.proofs.Faults as Faults
use Rattle.meaning.proofs.Windows as Windows
use Rattle.columns.specs.declared.Columns.{Columns}
use Rattle.nodes.specs.Unpacking.{Unpacks}
use Rattle.nodes.proofs.Loads.{blocks-good}
use Rattle.nodes.proofs.Held as Held
use Rattle.writer.specs.Promise.{WritePromise}
use Rattle.writer.specs.Filling.{Reaches}
use Rattle.writer.proofs.Stretches.{Bytes}
use Rattle.writer.proofs.WriteLines.{FiveToTen, write_lines, long_enough_lem, write_says, write_numbers}
use Rattle.writer.proofs.Again.{Unpacked}
use Rattle.writer.proofs.Outcomes.{Fitting}
use Rattle.writer.proofs.Rewritten as Rewritten
use Rattle.writer.proofs.Again as Again
use Rattle.writer.proofs.Outcomes as Outcomes
use Rattle.judging.proofs.Modes.{judged-days, judged-windows}
use Rattle.opening.specs.Promises.{VerdictPromise, SequencedPromise, SlicePromise, ChangesPromise}
use Rattle.opening.proofs.Sequenced as Asked
use Rattle.bank.proofs.Calls as Calls

-- Every theorem is about each answer x, and each list `after`, that the promise of a call allows (specs/Promises.antt): nodes and rules are
-- lists of bytes, k is a rule number, d a day, and `lent` the list as it was lent.

-- 0. What a promise allows is one result. Two answers that `verdict` may give are equal.
pub verdict-unique : (nodes rules : List ℕ) (k : ℕ) (x y : Result Verdict Refusal) → VerdictPromise nodes rules k x → VerdictPromise nodes rules k y → x ≡ y
verdict-unique nodes rules k x y p q = Unique.verdict-unique x y (p ∙ sym q)

-- Two answers that `slice` may give are equal, and so are two lists that it may leave.
pub slice-unique : (nodes : List ℕ) (d : ℕ) (lent : List ℕ) (x y : Result ℕ Refusal) (after other : List ℕ)
    → SlicePromise nodes d lent x after → SlicePromise nodes d lent y other → (x ≡ y) × (after ≡ other)
slice-unique nodes d lent x y after other p q = (Unique.listed-unique x y (p.0 ∙ sym q.0), p.1 ∙ sym q.1)

-- The same for `change_days`.
pub changes_unique : (nodes rules : List ℕ) (k : ℕ) (lent : List ℕ) (x y : Result ℕ Refusal) (after other : List ℕ)
    → ChangesPromise nodes rules k lent x after → ChangesPromise nodes rules k lent y other → (x ≡ y) × (after ≡ other)
changes_unique nodes rules k lent x y after other p q = (Unique.listed-unique x y (p.0 ∙ sym q.0), p.1 ∙ sym q.1)

-- 1. Demand 1: every image, however damaged, gets an answer, bad input is refused by number and place, and a refusal changes no lent list.
-- That a call answers is no theorem about its promise: the three calls have no condition, and each is proved to return. The next three hold
-- of any promise that names its answer, and say that it can be kept: there is an answer that `verdict` may give, for every pair of images and
-- every rule number.
pub verdict-answers : (nodes rules : List ℕ) (k : ℕ) → (x : Result Verdict Refusal) × VerdictPromise nodes rules k x
verdict-answers nodes rules k = (_, refl)

-- So for `slice`, with every image, day and lent list, ..
pub slice-answers : (nodes : List ℕ) (d : ℕ) (lent : List ℕ) → (x : Result ℕ Refusal) × (after : List ℕ) × SlicePromise nodes d lent x after
slice-answers nodes d lent = (_, _, (refl, refl))

-- .. and for `change_days`, with every pair of images, rule number and lent list.
pub changes_answers : (nodes rules : List ℕ) (k : ℕ) (lent : List ℕ) → (x : Result ℕ Refusal) × (after : List ℕ) × ChangesPromise nodes rules k lent x after
changes_answers nodes rules k lent = (_, _, (refl, refl))

-- both images are sound, and rule k stands in the table
pub record Answerable (nodes rules : List ℕ) (k : ℕ) : Type 0 where
  pub nodes_sound : SoundNodes nodes
  pub rules_sound : SoundRules rules
  pub in_table : k < length (rules_of rules)

-- which is what their reading accepts
answerable : (nodes rules : List ℕ) (k : ℕ) → (read_verdict nodes rules k ≡ Accepted) ↔ Answerable nodes rules k
answerable nodes rules k = (
  λ e. let s = (Calls.verdict-read nodes rules k).0 e in record { nodes_sound = (nodes_accepted nodes).0 s.0; rules_sound = (rules_accepted rules).0 s.1.0; in_table = s.1.1 },
  λ w. (Calls.verdict-read nodes rules k).1 ((nodes_accepted nodes).1 w.nodes_sound, ((rules_accepted rules).1 w.rules_sound, w.in_table)),
)

-- a rule is sequenced (01: byte 1 is 0)
abbrev pub Sequenced : Rule → Type 0
Sequenced r = r.windowed ≡ 0

-- with a sequenced rule it is what the reading for change days accepts
sequenced-answerable : (nodes rules : List ℕ) (k : ℕ) → (read_changes nodes rules k ≡ Accepted) ↔ (Answerable nodes rules k × Sequenced (rule_at (rules_of rules) k))
sequenced-answerable nodes rules k = (
  λ e.
      let s = (Asked.changes_read nodes rules k).0 e in
      (record { nodes_sound = (nodes_accepted nodes).0 s.0; rules_sound = (rules_accepted rules).0 s.1.0; in_table = s.1.1.0 }, s.1.1.1),
  λ w. (Asked.changes_read nodes rules k).1 ((nodes_accepted nodes).1 w.0.nodes_sound, ((rules_accepted rules).1 w.0.rules_sound, (w.0.in_table, w.1))),
)

-- n numbers are stored from the start of the lent list, those of `list` in its order, and nothing past them
pub record Filled (list : List ℕ) (n : ℕ) (lent after : List ℕ) : Type 0 where
  pub count : n ≡ length list
  pub room : n ≤ length lent
  pub entries : after ≡ list ++ drop n lent

-- What `verdict` refuses, and how; x is its answer.
pub record VerdictRefusals (nodes rules : List ℕ) (k : ℕ) (x : Result Verdict Refusal) : Type 0 where
  -- refused with number a and place b exactly when these are of the first line that is due of 01's table, in 01's order (meaning/proofs/Due.antt)
  pub exactly : (a b : ℕ) → (x ≡ Refused a b) ↔ FirstDue a b (verdict_lines nodes rules k)
  -- so it is refused as the reading of images and rule number is
  pub as_read : (a b : ℕ) → (x ≡ Refused a b) ↔ (read_verdict nodes rules k ≡ Refused a b)
  -- not refused exactly when both images are sound and there is such a rule
  pub given : ((a b : ℕ) → x ≡ Refused a b → ⊥) ↔ Answerable nodes rules k
  -- the node image's refusal comes first, ..
  pub nodes_first : (a b : ℕ) → read_nodes nodes ≡ Refused a b → x ≡ Refused a b
  -- .. then the rule image's, ..
  pub rules_next : SoundNodes nodes → (a b : ℕ) → read_rules rules ≡ Refused a b → x ≡ Refused a b
  -- .. then 11 where there is no such rule
  pub no_such_rule : SoundNodes nodes → SoundRules rules → length (rules_of rules) ≤ k → x ≡ Refused 11 0

-- Each answer that `verdict` may give is refused so.
pub verdict-refusals : (nodes rules : List ℕ) (k : ℕ) (x : Result Verdict Refusal) → VerdictPromise nodes rules k x → VerdictRefusals nodes rules k x
verdict-refusals nodes rules k x p =
    let e = Unique.verdict-unique x (verdict nodes rules k) p in
    record {
      exactly = λ a b. Calls.through (Calls.verdict-as_read nodes rules k e a b) (verdict-refused nodes rules k a b);
      as_read = Calls.verdict-as_read nodes rules k e;
      given = Calls.through (Calls.verdict-given nodes rules k e) (answerable nodes rules k);
      nodes_first = Calls.verdict-nodes nodes rules k e;
      rules_next = λ n. Calls.verdict-rules nodes rules k e ((nodes_accepted nodes).1 n);
      no_such_rule = λ n r. Calls.verdict-none nodes rules k e ((nodes_accepted nodes).1 n) ((rules_accepted rules).1 r);
    }

-- What `slice` refuses, and how; x is its answer and `after` the lent list afterwards.
pub record SliceRefusals (nodes : List ℕ) (d : ℕ) (lent : List ℕ) (x : Result ℕ Refusal) (after : List ℕ) : Type 0 where
  -- refused with number a and place b exactly when these are of the first line that is due of 01's table, in 01's order
  pub exactly : (a b : ℕ) → (x ≡ Refused a b) ↔ FirstDue a b (slice_lines nodes d lent)
  -- so it is refused as the reading of image and day is, or else for want of room
  pub as_read : (a b : ℕ) → (x ≡ Refused a b) ↔ (and_then (read_slice nodes d) (need (leb (length (slice (doc_of nodes) d)) (length lent)) 12 0) ≡ Refused a b)
  -- a list is stored exactly when the image is sound, there is such a day, and the lent list has room
  pub given : ((n : ℕ) × (x ≡ Ok n)) ↔ (SoundNodes nodes × (d ≤ 36524) × (length (slice (doc_of nodes) d) ≤ length lent))
  -- the node image's refusal comes first, ..
  pub nodes_first : (a b : ℕ) → read_nodes nodes ≡ Refused a b → x ≡ Refused a b
  -- .. then 11 for a day past the last, ..
  pub no_such_day : SoundNodes nodes → 36524 < d → x ≡ Refused 11 0
  -- .. then 12 where the lent list is too short
  pub too_short : SoundNodes nodes → d ≤ 36524 → length lent < length (slice (doc_of nodes) d) → x ≡ Refused 12 0
  -- a refusal leaves the lent list as it was
  pub unchanged : (a b : ℕ) → x ≡ Refused a b → after ≡ lent
  -- otherwise the list is stored, and nothing past it
  pub filled : (n : ℕ) → x ≡ Ok n → Filled (slice (doc_of nodes) d) n lent after

-- Each answer that `slice` may give, and each list that it may leave, are so.
pub slice-refusals : (nodes : List ℕ) (d : ℕ) (lent : List ℕ) (x : Result ℕ Refusal) (after : List ℕ) → SlicePromise nodes d lent x after → SliceRefusals nodes d lent x after
unfolding slice_answer slice_lent
slice-refusals nodes d lent x after p =
    let e = Unique.listed-unique x (slice_answer nodes d lent) p.0 in
    let list = slice (doc_of nodes) d in
    let read = read_slice nodes d in
    let stored = Calls.listed-stored read list lent e p.1 in
    record {
      exactly = λ a b. Calls.through (Calls.listed-refused read list lent e p.1 a b) (slice-refused nodes d lent a b);
      as_read = Calls.listed-refused read list lent e p.1;
      given = (
        λ w. let s = stored w.0 w.1 in let r = (Calls.slice-read nodes d).0 s.0 in ((nodes_accepted nodes).0 r.0, r.1, omega (arith, s.1, s.2)),
        λ w. (_, Calls.listed-room read list lent e p.1 ((Calls.slice-read nodes d).1 ((nodes_accepted nodes).1 w.0, w.1)) w.2),
      );
      nodes_first = λ a b h. Calls.listed-early read list lent e p.1 a b (Calls.slice-read_nodes nodes d a b h);
      no_such_day = λ n h. Calls.listed-early read list lent e p.1 11 0 (Calls.slice-read_late nodes d ((nodes_accepted nodes).1 n) h);
      too_short = λ n h. Calls.listed-short read list lent e p.1 ((Calls.slice-read nodes d).1 ((nodes_accepted nodes).1 n, h));
      unchanged = Calls.listed_kept read list lent e p.1;
      filled = λ n h. let s = stored n h in record { count = s.1; room = s.2; entries = Calls.listed-filled read list lent e p.1 n h };
    }

-- What `change_days` refuses, and how.
pub record ChangesRefusals (nodes rules : List ℕ) (k : ℕ) (lent : List ℕ) (x : Result ℕ Refusal) (after : List ℕ) : Type 0 where
  -- refused with number a and place b exactly when these are of the first line that is due of 01's table, in 01's order
  pub exactly : (a b : ℕ) → (x ≡ Refused a b) ↔ FirstDue a b (changes_lines nodes rules k lent)
  -- so it is refused as the reading of images and rule is, or else for want of room
  pub as_read : (a b : ℕ) → (x ≡ Refused a b) ↔ (and_then (read_changes nodes rules k) (need (leb (length (changes_of nodes rules k)) (length lent)) 12 0) ≡ Refused a b)
  -- a list is stored exactly when both images are sound, there is such a rule, it is sequenced, and the lent list has room
  pub given : ((n : ℕ) × (x ≡ Ok n)) ↔ (Answerable nodes rules k × Sequenced (rule_at (rules_of rules) k) × (length (changes_of nodes rules k) ≤ length lent))
  -- the node image's refusal comes first, ..
  pub nodes_first : (a b : ℕ) → read_nodes nodes ≡ Refused a b → x ≡ Refused a b
  -- .. then the rule image's, ..
  pub rules_next : SoundNodes nodes → (a b : ℕ) → read_rules rules ≡ Refused a b → x ≡ Refused a b
  -- .. then 11 where there is no such rule ..
  pub no_such_rule : SoundNodes nodes → SoundRules rules → length (rules_of rules) ≤ k → x ≡ Refused 11 0
  -- .. or it is not sequenced, ..
  pub not_sequenced : Answerable nodes rules k → (Sequenced (rule_at (rules_of rules) k) → ⊥) → x ≡ Refused 11 0
  -- .. then 12 where the lent list is too short
  pub too_short : Answerable nodes rules k → Sequenced (rule_at (rules_of rules) k) → length lent < length (changes_of nodes rules k) → x ≡ Refused 12 0
  -- a refusal leaves the lent list as it was
  pub unchanged : (a b : ℕ) → x ≡ Refused a b → after ≡ lent
  -- otherwise the list is stored, and nothing past it
  pub filled : (n : ℕ) → x ≡ Ok n → Filled (changes_of nodes rules k) n lent after

-- Each answer that `change_days` may give, and each list that it may leave, are so.
pub changes_refusals : (nodes rules : List ℕ) (k : ℕ) (lent : List ℕ) (x : Result ℕ Refusal) (after : List ℕ) → ChangesPromise nodes rules k lent x after → ChangesRefusals nodes rules k lent x after
unfolding changes_answer changes_lent
changes_refusals nodes rules k lent x after p =
    let e = Unique.listed-unique x (changes_answer nodes rules k lent) p.0 in
    let list = changes_of nodes rules k in
    let read = read_changes nodes rules k in
    let stored = Calls.listed-stored read list lent e p.1 in
    let early = Calls.listed-early read list lent e p.1 in
    let n-accepted = (nodes_accepted nodes).1 in
    let r-accepted = (rules_accepted rules).1 in
    let accepted : Answerable nodes rules k → Sequenced (rule_at (rules_of rules) k) → read ≡ Accepted = λ w s. (sequenced-answerable nodes rules k).1 (w, s) in
    record {
      exactly = λ a b. Calls.through (Calls.listed-refused read list lent e p.1 a b) (changes_refused nodes rules k lent a b);
      as_read = Calls.listed-refused read list lent e p.1;
      given = (
        λ w. let s = stored w.0 w.1 in let r = (sequenced-answerable nodes rules k).0 s.0 in (r.0, r.1, omega (arith, s.1, s.2)),
        λ w. (_, Calls.listed-room read list lent e p.1 (accepted w.0 w.1) w.2),
      );
      nodes_first = λ a b h. early a b (Asked.changes_read_nodes nodes rules k a b h);
      rules_next = λ n a b h. early a b (Asked.changes_read_rules nodes rules k (n-accepted n) a b h);
      no_such_rule = λ n r h. early 11 0 (Asked.changes_read_none nodes rules k (n-accepted n) (r-accepted r) h);
      not_sequenced = λ w h. early 11 0 (Asked.changes_read_windowed nodes rules k (n-accepted w.nodes_sound) (r-accepted w.rules_sound) w.in_table h);
      too_short = λ w s. Calls.listed-short read list lent e p.1 (accepted w s);
      unchanged = Calls.listed_kept read list lent e p.1;
      filled = λ n h. let s = stored n h in record { count = s.1; room = s.2; entries = Calls.listed-filled read list lent e p.1 n h };
    }

-- where both images are sound and there is such a rule, the answer is the verdict on it, ..
judged-as : (nodes rules : List ℕ) (k : ℕ) (x : Result Verdict Refusal) → VerdictPromise nodes rules k x → Answerable nodes rules k
    → x ≡ Ok (judged (doc_of nodes) (referred_by (rules_of rules) k) (rule_at (rules_of rules) k))
judged-as nodes rules k x p w =
    Calls.verdict-as_judged nodes rules k (Unique.verdict-unique x (verdict nodes rules k) p) ((answerable nodes rules k).1 w)

-- .. for a sequenced rule the one over every day
verdict-on_days : (nodes rules : List ℕ) (k : ℕ) (x : Result Verdict Refusal) → VerdictPromise nodes rules k x → Answerable nodes rules k → Sequenced (rule_at (rules_of rules) k)
    → x ≡ Ok (on_days (doc_of nodes) (referred_by (rules_of rules) k) (rule_at (rules_of rules) k))
verdict-on_days nodes rules k x p w s = judged-as nodes rules k x p w ∙ ap Ok (sym (judged-days (doc_of nodes) (referred_by (rules_of rules) k) (rule_at (rules_of rules) k) s))

-- 2. Demand 2: verdicts and slices are those of the definitions.
-- A sequenced rule r, which refers to q, over the document: what the answer x says.
pub record JudgedOnDays (doc : Doc) (q r : Rule) (x : Result Verdict Refusal) : Type 0 where
  -- it holds exactly when no record offends on any day of its period
  pub holds : ((n : ℕ) × (x ≡ Ok (Holds n))) ↔ NoFault doc q r
  -- it fails with day d and record v exactly when d is the first day with an offender and v the lowest offender of that day
  pub fails : (d v : ℕ) → ((n : ℕ) × (x ≡ Ok (Fails d v n))) ↔ FirstFault doc q r d v
  -- there is no third answer
  pub no_other : ((n : ℕ) × (x ≡ Ok (Holds n))) ⊎ ((d : ℕ) × (v : ℕ) × (n : ℕ) × (x ≡ Ok (Fails d v n)))

-- The answer of `verdict` on a sequenced rule of sound images is so.
pub sequenced-verdict_lem : (nodes rules : List ℕ) (k : ℕ) (x : Result Verdict Refusal) → VerdictPromise nodes rules k x → Answerable nodes rules k → Sequenced (rule_at (rules_of rules) k)
    → JudgedOnDays (doc_of nodes) (referred_by (rules_of rules) k) (rule_at (rules_of rules) k) x
sequenced-verdict_lem nodes rules k x p w s =
    let doc = doc_of nodes in
    let q = referred_by (rules_of rules) k in
    let r = rule_at (rules_of rules) k in
    let e = verdict-on_days nodes rules k x p w s in
    record {
      holds = (λ h. (Faults.holds-none doc q r h.0 (Calls.same_ok (sym e ∙ h.1))).0, λ h. (_, e ∙ ap Ok (Faults.none-holds doc q r h)));
      fails = λ d v. (λ h. fails_on_days doc q r d v h.0 (Calls.same_ok (sym e ∙ h.1)), λ h. let f = Calls.first-fails doc q r d v h in (f.0, e ∙ ap Ok f.1));
      no_other = Calls.answers_so e (Calls.days_answer doc q r);
    }

-- A non-sequenced rule: the same, in windows.
pub record JudgedInWindows (doc : Doc) (q r : Rule) (x : Result Verdict Refusal) : Type 0 where
  -- its windows: window j, from 0, is w exactly when w starts and ends as 01 says by the unit (`Timetable.IsWindow`)
  pub which : (j : ℕ) (w : Window) → Nth (windows r) j w ↔ IsWindow r j w
  -- it holds exactly when no record offends in any window of its period, ..
  pub holds : ((n : ℕ) × (x ≡ Ok (Holds n))) ↔ NoFaultAmong doc q r (windows r)
  -- .. and then all windows were counted
  pub all_counted : (n : ℕ) → x ≡ Ok (Holds n) → n ≡ length (windows r)
  -- it fails with d, v and n exactly when the n-th window is the first with an offender, d its start, and v its lowest offender
  pub fails : (d v n : ℕ) → (x ≡ Ok (Fails d v n)) ↔ FirstFaultIn doc q r d v n
  -- there is no third answer
  pub no_other : ((n : ℕ) × (x ≡ Ok (Holds n))) ⊎ ((d : ℕ) × (v : ℕ) × (n : ℕ) × (x ≡ Ok (Fails d v n)))

-- The answer of `verdict` on a non-sequenced rule of sound images is so.
pub windowed-verdict : (nodes rules : List ℕ) (k : ℕ) (x : Result Verdict Refusal) → VerdictPromise nodes rules k x → Answerable nodes rules k → (Sequenced (rule_at (rules_of rules) k) → ⊥)
    → JudgedInWindows (doc_of nodes) (referred_by (rules_of rules) k) (rule_at (rules_of rules) k) x
windowed-verdict nodes rules k x p w s =
    let doc = doc_of nodes in
    let q = referred_by (rules_of rules) k in
    let r = rule_at (rules_of rules) k in
    let e = judged-as nodes rules k x p w ∙ ap Ok (sym (judged-windows doc q r s)) in
    record {
      which = which_windows r (w.rules_sound.table k w.in_table);
      holds = (λ h. (Windows.holds-none_in doc q r h.0 (Calls.same_ok (sym e ∙ h.1))).0, λ h. (_, e ∙ ap Ok (Windows.none-holds_in doc q r h)));
      all_counted = λ n h. (Windows.holds-none_in doc q r n (Calls.same_ok (sym e ∙ h))).1;
      fails = λ d v n. (λ h. fails_in_windows doc q r d v n (Calls.same_ok (sym e ∙ h)), λ h. e ∙ ap Ok (Calls.first-fails_in doc q r d v n h));
      no_other = Calls.answers_so e (Calls.windows-answer doc q r);
    }

-- What request 2 of 02 changed of this: a shortened window is not held to a cardinality's minimum. A window of a rule of a sound table is shortened
-- exactly when its natural end lies past the period's end or past the last entry of the month table.
pub shortened-windows : (rules : List ℕ) (k : ℕ) → SoundRules rules → k < length (rules_of rules) → (j : ℕ) (w : Window) → IsWindow (rule_at (rules_of rules) k) j w
    → (shortened w ≡ true) ↔ PastEnd (rule_at (rules_of rules) k) w
shortened-windows rules k sound h = shortened-where (rule_at (rules_of rules) k) (sound.table k h)

-- On a rule that is no cardinality in windows, or has no shortened window, `verdict` answers what it answered before, be the images what they may
-- (`verdict_before`: the verdict without the exception, kept in meaning/proofs/Before.antt for this statement and the next); ..
pub verdict-as_before : (nodes rules : List ℕ) (k : ℕ) (x : Result Verdict Refusal) → VerdictPromise nodes rules k x → Untouched (rule_at (rules_of rules) k) → x ≡ verdict_before nodes rules k
verdict-as_before nodes rules k x p u = Unique.verdict-unique x (verdict nodes rules k) p ∙ verdict-same nodes rules k u

-- .. and a rule that held before holds still, with the same count.
pub still_holds : (nodes rules : List ℕ) (k : ℕ) (x : Result Verdict Refusal) → VerdictPromise nodes rules k x → (n : ℕ) → verdict_before nodes rules k ≡ Ok (Holds n) → x ≡ Ok (Holds n)
still_holds nodes rules k x p n e = Unique.verdict-unique x (verdict nodes rules k) p ∙ verdict-holds nodes rules k n e

-- Request 5 of 02, in the words of the verdict: where `verdict` answers that a key or a reference holds, no selected version has a nil on any day of its period, ..
pub held-nil_free : (nodes rules : List ℕ) (k : ℕ) (x : Result Verdict Refusal) → VerdictPromise nodes rules k x → Answerable nodes rules k → WantsKnown (rule_at (rules_of rules) k)
    → Sequenced (rule_at (rules_of rules) k) → (n : ℕ) → x ≡ Ok (Holds n) → NilFreeDays (doc_of nodes) (rule_at (rules_of rules) k)
held-nil_free nodes rules k x p w wants s n e =
    holds-nil_free (doc_of nodes) (referred_by (rules_of rules) k) (rule_at (rules_of rules) k) wants ((sequenced-verdict_lem nodes rules k x p w s).holds.0 (n, e))

-- .. and, if it is not sequenced, in any of its windows.
pub held-nil_free_in : (nodes rules : List ℕ) (k : ℕ) (x : Result Verdict Refusal) → VerdictPromise nodes rules k x → Answerable nodes rules k → WantsKnown (rule_at (rules_of rules) k)
    → (Sequenced (rule_at (rules_of rules) k) → ⊥) → (n : ℕ) → x ≡ Ok (Holds n) → NilFreeWindows (doc_of nodes) (rule_at (rules_of rules) k)
held-nil_free_in nodes rules k x p w wants s n e =
    holds-nil_free_in (doc_of nodes) (referred_by (rules_of rules) k) (rule_at (rules_of rules) k) wants ((windowed-verdict nodes rules k x p w s).holds.0 (n, e))

-- What the request left as it was: for a node image without nils `verdict` answers what it answered before there were any, be the images what they may
-- (`verdict_was` and its like: the meaning before nils, kept in meaning/proofs/BeforeNils.antt for this statement and the next five), ..
pub verdict-without_nils : (nodes rules : List ℕ) (k : ℕ) (x : Result Verdict Refusal) → VerdictPromise nodes rules k x → NoNils (doc_of nodes) → x ≡ verdict_was nodes rules k
verdict-without_nils nodes rules k x p none = Unique.verdict-unique x (verdict nodes rules k) p ∙ verdict-as_was nodes none rules k

-- .. `slice` answers what it answered and leaves what it left in the lent list, ..
pub slice-without_nils : (nodes : List ℕ) (d : ℕ) (lent : List ℕ) (x : Result ℕ Refusal) (after : List ℕ) → SlicePromise nodes d lent x after → NoNils (doc_of nodes)
    → (x ≡ slice_answer_was nodes d lent) × (after ≡ slice_lent_was nodes d lent)
slice-without_nils nodes d lent x after p none = (
  Unique.listed-unique x (slice_answer nodes d lent) p.0 ∙ slice-as_was nodes none d lent,
  p.1 ∙ slice-left_as_was nodes none d lent,
)

-- .. and so does `change_days`.
pub changes_without_nils : (nodes rules : List ℕ) (k : ℕ) (lent : List ℕ) (x : Result ℕ Refusal) (after : List ℕ) → ChangesPromise nodes rules k lent x after
    → NoNils (doc_of nodes) → (x ≡ changes_answer_was nodes rules k lent) × (after ≡ changes_lent_was nodes rules k lent)
changes_without_nils nodes rules k lent x after p none = (
  Unique.listed-unique x (changes_answer nodes rules k lent) p.0 ∙ changes_as_was nodes none rules k lent,
  p.1 ∙ changes_left_as_was nodes none rules k lent,
)

-- So does the plain engine's `verdict`, ..
pub sequenced-without_nils : (nodes rules : List ℕ) (k : ℕ) (x : Result Verdict Refusal) → SequencedPromise nodes rules k x → NoNils (doc_of nodes) → x ≡ sequenced_verdict_was nodes rules k
sequenced-without_nils nodes rules k x p none = Unique.verdict-unique x (sequenced_verdict nodes rules k) p ∙ sequenced-as_was nodes none rules k

-- .. and records without nils are written, or refused, by `write_nodes` as they were.
pub write_without_nils : (n : ℕ) (c : Lent) (image : List ℕ) (x : Result ℕ Refusal) (after : List ℕ) → WritePromise n c image x after → NoNils (of_nodes (nodes_lent n c))
    → (x ≡ write_answer_was n c image) × (after ≡ write_image_was n c image)
write_without_nils n c image x after p none = (
  Unique.output_unique x (write_answer n c image) p.0 ∙ write_as_was n c none image,
  p.1 ∙ written_as_was n c none image,
)

-- A node image that was accepted before has no nils, so these hold of it, and it is accepted still.
pub accepted-before_nils : (nodes : List ℕ) → read_nodes_was nodes ≡ Accepted → NoNils (doc_of nodes) × (read_nodes nodes ≡ Accepted)
accepted-before_nils nodes e = (was_nilless nodes e, still_accepted nodes e)

-- The slice of day d, as a list.
pub record IsSlice (doc : Doc) (d : ℕ) (list : List ℕ) : Type 0 where
  -- ascending, each version once
  pub ascending : Ascending list
  -- a record is in it exactly when it is a version with begin ≤ d < end
  pub membership : (v : ℕ) → In list v ↔ Lives doc d v
  -- the records that pass this test, in their order
  pub picked : list ≡ pick (alive doc d) 0 doc.size

-- What `slice` stores is the slice of the day.
pub slice-stored : (nodes : List ℕ) (d : ℕ) (lent : List ℕ) (x : Result ℕ Refusal) (after : List ℕ) → SlicePromise nodes d lent x after → (n : ℕ) → x ≡ Ok n
    → Filled (slice (doc_of nodes) d) n lent after × IsSlice (doc_of nodes) d (slice (doc_of nodes) d)
slice-stored nodes d lent x after p n h =
    let w = slice-refusals nodes d lent x after p in
    let s = (w.given.0 (n, h)).0.document in
    let e = Slices.slice-alive (doc_of nodes) (Slices.present-alive (doc_of nodes) s) d in
    (w.filled n h, record { ascending = rw e (pick-ascends (alive (doc_of nodes) d) 0 (doc_of nodes).size); membership = Calls.alive-listed (doc_of nodes) s d; picked = e })

-- 3. Demand 3: the change days of a sequenced rule r, which refers to q, serve for its verdict x; m of them are stored.
pub record ChangeDaysServe (doc : Doc) (q r : Rule) (x : Result Verdict Refusal) (days : List ℕ) (m : ℕ) (lent after : List ℕ) : Type 0 where
  -- the lent list holds these m days, and then what it held
  pub stored : Filled days m lent after
  -- ascending, each day once
  pub ascending : Ascending days
  -- a day is among them exactly when it is the period's first, or a later one of it on which a version that the rule reads begins or ends
  pub membership : (d : ℕ) → In days d ↔ ChangeDay doc q r d
  -- they number at most two for each version read, and one
  pub few : m ≤ 2 * count (reads doc q r) 0 doc.size + 1
  -- the verdict over every day of the period ..
  pub every_day : x ≡ Ok (on_days doc q r)
  -- .. is the verdict over these days alone
  pub these_days : x ≡ Ok (over (offender doc q r) days 0)
  -- the first failing day is among them, and the reported count is its place, from one
  pub first_place : (d v n : ℕ) → x ≡ Ok (Fails d v n) → AtPlace days d n
  -- where the rule holds, the reported count is how many they are
  pub whole_count : (n : ℕ) → x ≡ Ok (Holds n) → n ≡ m

-- Whatever `verdict` answers and `change_days` stores for one rule, the days stored serve so (that they are stored says that the images are
-- sound and the rule is sequenced: `ChangesRefusals.given`).
pub change_days-serve : (nodes rules : List ℕ) (k : ℕ) (lent : List ℕ) (x : Result Verdict Refusal) (y : Result ℕ Refusal) (after : List ℕ)
    → VerdictPromise nodes rules k x → ChangesPromise nodes rules k lent y after → (m : ℕ) → y ≡ Ok m
    → ChangeDaysServe (doc_of nodes) (referred_by (rules_of rules) k) (rule_at (rules_of rules) k) x (changes_of nodes rules k) m lent after
unfolding changes_of
change_days-serve nodes rules k lent x y after p c m h =
    let w = changes_refusals nodes rules k lent y after c in
    let g = w.given.0 (m, h) in
    let f = w.filled m h in
    let e = verdict-on_days nodes rules k x p g.0 g.1 in
    let s = enough-days (doc_of nodes) (sound-accepted (doc_of nodes) g.0.nodes_sound.document) (referred_by (rules_of rules) k) (rule_at (rules_of rules) k) in
    record {
      stored = f;
      ascending = s.ascending;
      membership = s.membership;
      few = omega (arith, f.count, s.few);
      every_day = e;
      these_days = e ∙ ap Ok s.same_verdict;
      first_place = λ d v n t. s.first_place d v n (Calls.same_ok (sym e ∙ t));
      whole_count = λ n t. s.whole_count n (Calls.same_ok (sym e ∙ t)) ∙ sym f.count;
    }

-- A lent list with two entries for each version read, and one, has room for them.
pub change_days-room : (nodes rules : List ℕ) (k : ℕ) (lent : List ℕ) (y : Result ℕ Refusal) (after : List ℕ) → ChangesPromise nodes rules k lent y after
    → Answerable nodes rules k → Sequenced (rule_at (rules_of rules) k)
    → 2 * count (reads (doc_of nodes) (referred_by (rules_of rules) k) (rule_at (rules_of rules) k)) 0 (doc_of nodes).size + 1 ≤ length lent
    → (m : ℕ) × (y ≡ Ok m)
unfolding changes_of
change_days-room nodes rules k lent y after c w s h =
    let t = enough-days (doc_of nodes) (sound-accepted (doc_of nodes) w.nodes_sound.document) (referred_by (rules_of rules) k) (rule_at (rules_of rules) k) in
    (changes_refusals nodes rules k lent y after c).given.1 (w, s, omega (arith, t.few))

-- So a lent list with two entries for each record that there can be, and one, has room for every list of change days, ..
pub change_days-room_any : (nodes rules : List ℕ) (k : ℕ) (lent : List ℕ) (y : Result ℕ Refusal) (after : List ℕ) → ChangesPromise nodes rules k lent y after
    → Answerable nodes rules k → Sequenced (rule_at (rules_of rules) k) → 2 * limit + 1 ≤ length lent → (m : ℕ) × (y ≡ Ok m)
unfolding changes_of
change_days-room_any nodes rules k lent y after c w s h =
    (changes_refusals nodes rules k lent y after c).given.1 (w, s, omega (arith, days_most nodes w.nodes_sound (referred_by (rules_of rules) k) (rule_at (rules_of rules) k)))

-- .. and one with an entry for each for every slice.
pub slice-room : (nodes : List ℕ) (d : ℕ) (lent : List ℕ) (x : Result ℕ Refusal) (after : List ℕ) → SlicePromise nodes d lent x after
    → SoundNodes nodes → d ≤ 36524 → limit ≤ length lent → (m : ℕ) × (x ≡ Ok m)
slice-room nodes d lent x after p n l h = (slice-refusals nodes d lent x after p).given.1 (n, l, omega (arith, slice-most nodes n d))

-- 4. Writing (02, request 1). n records stand in the lent columns c (`nodes_lent n c`), and their image is `image_of (nodes_lent n c)`; x is an
-- answer, and `after` an image, that the promise of `write_nodes` allows where `image` was lent.
-- Two answers that it may give are equal, and so are two images that it may leave.
pub write_unique : (n : ℕ) (c : Lent) (image : List ℕ) (x y : Result ℕ Refusal) (after other : List ℕ) → WritePromise n c image x after → WritePromise n c image y other → (x ≡ y) × (after ≡ other)
write_unique n c image x y after other p q = (Unique.output_unique x y (p.0 ∙ sym q.0), p.1 ∙ sym q.1)

-- It has an answer for all columns and every lent image.
pub write_answers : (n : ℕ) (c : Lent) (image : List ℕ) → (x : Result ℕ Refusal) × (after : List ℕ) × WritePromise n c image x after
write_answers n c image = (_, _, (refl, refl))

-- What was written in m bytes.
pub record WellWritten (n : ℕ) (c : Lent) (image : List ℕ) (m : ℕ) (after : List ℕ) : Type 0 where
  -- whole blocks, as many as the records take, for which there was room
  pub size : m ≡ 512 * blocks_for node_form n
  pub room : m ≤ length image
  -- they are the image of the records, and the bytes past them are as they were
  pub bytes : take m after ≡ image_of (nodes_lent n c)
  pub rest : drop m after ≡ drop m image
  -- reading them is accepted, and gives the same records
  pub accepted : read_nodes (take m after) ≡ Accepted
  pub same_records : nodes_of (take m after) ≡ nodes_lent n c

-- What is written is so, for all columns that are not refused (their values being numbers of 32 bits, as the column's type says).
pub well_written : (n : ℕ) (c : Lent) (image : List ℕ) (x : Result ℕ Refusal) (after : List ℕ) → WritePromise n c image x after → Fitting n c → (m : ℕ) → x ≡ Ok m → WellWritten n c image m after
well_written n c image x after p f m e =
    record {
      size = Outcomes.written_size n c image p m e;
      room = Outcomes.written_room n c image p m e;
      bytes = Outcomes.written_front n c image p m e;
      rest = Outcomes.written_rest n c image p m e;
      accepted = Outcomes.written_accepted n c image p m e f;
      same_records = Outcomes.written_records n c image p m e f;
    }

-- What `write_nodes` refuses, and how.
pub record WriteRefusals (n : ℕ) (c : Lent) (image : List ℕ) (x : Result ℕ Refusal) (after : List ℕ) : Type 0 where
  -- refused with number a and place b exactly when these are of the first line that is due of the call's table, in its order (writer/proofs/WriteLines.antt)
  pub exactly : (a b : ℕ) → (x ≡ Refused a b) ↔ FirstDue a b (write_lines n c image)
  -- where count and columns are taken, as the reader refuses the image of these records; ..
  pub as_reader : 1 ≤ n → n ≤ limit → Reaches n c → Fitting n c → (a b : ℕ) → read_nodes (image_of (nodes_lent n c)) ≡ Refused a b → x ≡ Refused a b
  -- .. and whatever is refused with another number than 1 and 12, the reader refuses so
  pub reader_so : Fitting n c → (a b : ℕ) → (a ≡ 1 → ⊥) → (a ≡ 12 → ⊥) → x ≡ Refused a b → read_nodes (image_of (nodes_lent n c)) ≡ Refused a b
  -- the numbers are 1, 12 and those from 5 to 10: never 2, 3 or 4
  pub numbers : (a b : ℕ) → x ≡ Refused a b → (a ≡ 1) ⊎ ((a ≡ 12) ⊎ FiveToTen a)
  -- every byte stays as it was
  pub unchanged : (a b : ℕ) → x ≡ Refused a b → after ≡ image

-- Each answer that it may give is refused so.
pub write_refusals : (n : ℕ) (c : Lent) (image : List ℕ) (x : Result ℕ Refusal) (after : List ℕ) → WritePromise n c image x after → WriteRefusals n c image x after
write_refusals n c image x after p =
    record {
      exactly = λ a b. Calls.through (Outcomes.refused_as_read n c image p a b) (refused_exactly (read_write n c image) (write_lines n c image) (write_says n c image) a b);
      as_reader = λ one few r f. Outcomes.refused_as_image n c image p one few ((long_enough_lem n c).1 r) f;
      reader_so = λ f a b i j e. Outcomes.image-refused_so n c image p f a b i j e;
      numbers = λ a b e. write_numbers n c image a b ((Outcomes.refused_as_read n c image p a b).0 e);
      unchanged = Outcomes.refused_kept n c image p;
    }

-- Writing what was read from an accepted image gives the same bytes, whatever the columns hold past its records and whatever else is lent, ..
pub read-then_written : (image : List ℕ) → Bytes image → read_nodes image ≡ Accepted → (n : ℕ) (c : Lent) → Unpacked image n c
    → (given : List ℕ) (x : Result ℕ Refusal) (after : List ℕ) → WritePromise n c given x after → length image ≤ length given
    → (x ≡ Ok (length image)) × (after ≡ image ++ drop (length image) given)
read-then_written image bytes e n c u given x after p h =
    let same = Again.unpacked-again image n c u e bytes in
    let w = Outcomes.accepted-written n c given p (Again.unpacked-accepted image n c u e) (rw same h) in
    rw same at w

-- .. where such columns are those that an image is opened into.
pub opened-unpacked : (image : List ℕ) (c : Columns) → Unpacks image c → (n : ℕ) → c.loaded ≡ Ok n
    → Unpacked image n (lent c.kind c.vkind c.name c.parent c.begin c.end c.value c.item)
opened-unpacked image c u n r =
    record {
      count = (Held.held image u r).count;
      kind = Held.front image u r _ 0 u.kind;
      vkind = Held.front image u r _ 0 u.vkind;
      name = Held.front image u r _ 0 u.name;
      parent = Held.front image u r _ 0 u.parent;
      begin = Held.front image u r _ 0 u.begin;
      end = Held.front image u r _ 0 u.end;
      value = Held.front image u r _ (pos 0) u.value;
      item = Held.front image u r _ 0 u.item;
    }

-- So an accepted document has exactly one image.
pub one-image : (s t : List ℕ) → Bytes s → Bytes t → read_nodes s ≡ Accepted → read_nodes t ≡ Accepted → nodes_of s ≡ nodes_of t → s ≡ t
one-image s t hs ht es et = Rewritten.one-image s t hs ht (blocks-good s es) (blocks-good t et)

-- 5. The plain engine (02, request 3), crate `plain`. Its `slice` has the promise of `slice`, so whatever the two answer and leave is the same:
-- list, refusal, and every entry of the lent list.
pub plain_slice : (nodes : List ℕ) (d : ℕ) (lent : List ℕ) (x y : Result ℕ Refusal) (after other : List ℕ)
    → SlicePromise nodes d lent x after → SlicePromise nodes d lent y other → (x ≡ y) × (after ≡ other)
plain_slice = slice-unique

-- Where the rule is sequenced, what `verdict` answers, x, and what `plain::verdict` does, y, are the same: day, record, count and refusals, be the
-- images, the rule's kind and its number what they may.
pub plain_verdict : (nodes rules : List ℕ) (k : ℕ) (x y : Result Verdict Refusal) → VerdictPromise nodes rules k x → SequencedPromise nodes rules k y
    → Sequenced (rule_at (rules_of rules) k) → x ≡ y
plain_verdict nodes rules k x y p q s =
    Unique.verdict-unique x (verdict nodes rules k) p ∙ sym (sequenced-same nodes rules k (eq-eqb (rule_at (rules_of rules) k).windowed 0 s))
    ∙ sym (Unique.verdict-unique y (sequenced_verdict nodes rules k) q)

-- What `plain::verdict` refuses, and how.
pub record PlainRefusals (nodes rules : List ℕ) (k : ℕ) (y : Result Verdict Refusal) : Type 0 where
  -- as the reading of images and rule is by which `change_days` is refused too
  pub as_read : (a b : ℕ) → (y ≡ Refused a b) ↔ (read_changes nodes rules k ≡ Refused a b)
  -- not refused exactly when both images are sound, there is such a rule, and it is sequenced
  pub given : ((a b : ℕ) → y ≡ Refused a b → ⊥) ↔ (Answerable nodes rules k × Sequenced (rule_at (rules_of rules) k))
  -- the node image's refusal comes first, ..
  pub nodes_first : (a b : ℕ) → read_nodes nodes ≡ Refused a b → y ≡ Refused a b
  -- .. then the rule image's, ..
  pub rules_next : SoundNodes nodes → (a b : ℕ) → read_rules rules ≡ Refused a b → y ≡ Refused a b
  -- .. then 11 where there is no such rule ..
  pub no_such_rule : SoundNodes nodes → SoundRules rules → length (rules_of rules) ≤ k → y ≡ Refused 11 0
  -- .. or it is not sequenced
  pub not_sequenced : Answerable nodes rules k → (Sequenced (rule_at (rules_of rules) k) → ⊥) → y ≡ Refused 11 0

-- Each answer that it may give is refused so.
pub plain_refusals : (nodes rules : List ℕ) (k : ℕ) (y : Result Verdict Refusal) → SequencedPromise nodes rules k y → PlainRefusals nodes rules k y
plain_refusals nodes rules k y p =
    let e = Unique.verdict-unique y (sequenced_verdict nodes rules k) p in
    let read = Calls.sequenced-as_read nodes rules k e in
    record {
      as_read = read;
      given = Calls.through (Calls.sequenced-given nodes rules k e) (sequenced-answerable nodes rules k);
      nodes_first = λ a b h. (read a b).1 (Asked.changes_read_nodes nodes rules k a b h);
      rules_next = λ n a b h. (read a b).1 (Asked.changes_read_rules nodes rules k ((nodes_accepted nodes).1 n) a b h);
      no_such_rule = λ n r h. (read 11 0).1 (Asked.changes_read_none nodes rules k ((nodes_accepted nodes).1 n) ((rules_accepted rules).1 r) h);
      not_sequenced = λ w h.
          (read 11 0).1 (Asked.changes_read_windowed nodes rules k ((nodes_accepted nodes).1 w.nodes_sound) ((rules_accepted rules).1 w.rules_sound) w.in_table h);
    }
