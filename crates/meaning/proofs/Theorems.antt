-- The theorems about the meaning of document 01, each statement to be read by itself; the proofs stand in the files cited.
use mathlib.Core.Path.{◌≡◌, ap}
use mathlib.Core.Logic.{◌↔◌}
use mathlib.Core.Bool.{Bool}
use mathlib.Core.List.{List, [], ◌∷◌}
use Prim.Native.Nat.{ℕ, ◌+◌, ◌*◌, ◌/◌, ◌≤◌, ◌<◌}
use native.Mathlib.Omega.{arith}
use lib.ListN.{length, set}
use Rattle.meaning.specs.declared.Rule.{Rule}
use Rattle.meaning.specs.Reading.{Accepted, Refused}
use Rattle.meaning.specs.declared.Verdict.TheVariants.{Holds, Fails}
use Rattle.meaning.specs.Walk.{count, pick}
use Rattle.meaning.specs.Bytes.{byte}
use Rattle.meaning.specs.Order.{and_then, in_order}
use Rattle.meaning.specs.Block.{node_form, check, check_from, image_tests}
use Rattle.meaning.specs.Document.{Doc}
use Rattle.meaning.specs.Nodes.{doc_of, accept, read_nodes}
use Rattle.meaning.specs.Rules.{read_rules}
use Rattle.meaning.specs.Select.{reads}
use Rattle.meaning.specs.Day.{alive, present_on, slice, offends, offender, change_days, on_days}
use Rattle.meaning.specs.Window.{Window, windows, in_windows}
use Rattle.meaning.specs.Answer.{read_verdict, read_slice, read_changes, changes_of}
use Rattle.meaning.proofs.Rows.{RuleRow}
use Rattle.meaning.proofs.Sound.{Sound, SoundNodes, SoundRules}
use Rattle.meaning.proofs.Orders.{then_accepted, then_both}
use Rattle.meaning.proofs.Lines.{FirstDue, refused_exactly}
use Rattle.meaning.proofs.Due.{node_lines, rule_lines, verdict_lines, slice_lines, changes_lines}
use Rattle.meaning.proofs.DueDocument.{nodes_say}
use Rattle.meaning.proofs.DueRules.{rules_say}
use Rattle.meaning.proofs.DueCalls.{roomy, verdict-says, slice-says, changes_says}
use Rattle.meaning.proofs.Picks.{Ascending, In}
use Rattle.meaning.proofs.Quiet.{Quiet}
use Rattle.meaning.proofs.Over.{over}
use Rattle.meaning.proofs.Changes.{ChangeDay, AtPlace}
use Rattle.meaning.proofs.Faults.{NoFault, FirstFault}
use Rattle.meaning.proofs.Timetable.{Nth, IsWindow}
use Rattle.meaning.proofs.Windows.{NoFaultAmong, FirstFaultIn}
use Rattle.meaning.proofs.Images as Images
use Rattle.meaning.proofs.Accepted as Accept
use Rattle.meaning.proofs.RulesSound as RulesSound
use Rattle.meaning.proofs.Slices as Slices
use Rattle.meaning.proofs.Quiet as Quiet'
use Rattle.meaning.proofs.Changes as Changes
use Rattle.meaning.proofs.Faults as Faults
use Rattle.meaning.proofs.Timetable as Timetable
use Rattle.meaning.proofs.Windows as Windows
use Rattle.meaning.proofs.Changed as Changed
use Rattle.meaning.proofs.Checks as Checks

-- 1. Acceptance: an image is accepted exactly when it is sound, ..
pub nodes_accepted : (image : List ℕ) → (read_nodes image ≡ Accepted) ↔ SoundNodes image
unfolding read_nodes
nodes_accepted image = (
  λ e. let w = then_accepted (in_order (image_tests node_form image)) (accept (doc_of image)) e in
      record { image_form = Images.image-sound node_form image (omega arith) w.0; document = Accept.accepted-sound (doc_of image) w.1 },
  λ s. then_both (in_order (image_tests node_form image)) (accept (doc_of image)) (Images.sound-image node_form image s.image_form) (Accept.sound-accepted (doc_of image) s.document),
)

pub rules_accepted : (image : List ℕ) → (read_rules image ≡ Accepted) ↔ SoundRules image
rules_accepted image = (RulesSound.rules_sound image, RulesSound.sound-rules image)

-- .. and refused with number a at place b exactly when that is the first line due of 01's table, in 01's order (`Due`): a is due at b, and
-- nothing that comes earlier is due.
pub nodes_refused : (image : List ℕ) (a b : ℕ) → (read_nodes image ≡ Refused a b) ↔ FirstDue a b (node_lines image)
nodes_refused image = refused_exactly (read_nodes image) (node_lines image) (nodes_say image)

pub rules_refused : (image : List ℕ) (a b : ℕ) → (read_rules image ≡ Refused a b) ↔ FirstDue a b (rule_lines image)
rules_refused image = refused_exactly (read_rules image) (rule_lines image) (rules_say image)

-- The same for the calls: what `verdict`, `slice` and `change_days` read before they answer.
pub verdict-refused : (nodes rules : List ℕ) (k a b : ℕ) → (read_verdict nodes rules k ≡ Refused a b) ↔ FirstDue a b (verdict_lines nodes rules k)
verdict-refused nodes rules k = refused_exactly (read_verdict nodes rules k) (verdict_lines nodes rules k) (verdict-says nodes rules k)

pub slice-refused : (nodes : List ℕ) (d : ℕ) (lent : List ℕ) (a b : ℕ)
    → (and_then (read_slice nodes d) (roomy (slice (doc_of nodes) d) lent) ≡ Refused a b) ↔ FirstDue a b (slice_lines nodes d lent)
slice-refused nodes d lent = refused_exactly _ (slice_lines nodes d lent) (slice-says nodes d lent)

pub changes_refused : (nodes rules : List ℕ) (k : ℕ) (lent : List ℕ) (a b : ℕ)
    → (and_then (read_changes nodes rules k) (roomy (changes_of nodes rules k) lent) ≡ Refused a b) ↔ FirstDue a b (changes_lines nodes rules k lent)
changes_refused nodes rules k lent = refused_exactly _ (changes_lines nodes rules k lent) (changes_says nodes rules k lent)

-- 2. Slices: in an accepted document Algorithm 2 comes to exactly the versions with begin ≤ d < end, ascending.
pub slice-alive : (doc : Doc) → accept doc ≡ Accepted → (d : ℕ) → slice doc d ≡ pick (alive doc d) 0 doc.size
slice-alive = Slices.accepted-slice

-- 3. Between change days nothing changes, whatever the kind: where no version read begins or ends in (c, d], the same records offend.
pub nothing_changes : (doc : Doc) → Sound doc → (q r : Rule) (c d : ℕ) → c ≤ d → Quiet doc q r c d
    → (v : ℕ) → offends doc (present_on doc c) q r v ≡ offends doc (present_on doc d) q r v
nothing_changes doc s q r c d h w v = ap (λ (f : ℕ → Bool). f v) (Quiet'.offends-same doc (Slices.present-alive doc s) q r c d h w)

-- 4. Demand 3, for an accepted document and a sequenced rule r (q the rule that it refers to).
pub record EnoughDays (doc : Doc) (q r : Rule) : Type 0 where
  -- the list is ascending, each day once
  pub ascending : Ascending (change_days doc q r)
  -- a day is in it exactly when it is the period's first, or a later one of it on which a version read begins or ends
  pub membership : (d : ℕ) → In (change_days doc q r) d ↔ ChangeDay doc q r d
  -- the verdict over the list is the verdict over every day
  pub same_verdict : on_days doc q r ≡ over (offender doc q r) (change_days doc q r) 0
  -- the first failing day is in the list, at the place counted
  pub first_place : (d v n : ℕ) → on_days doc q r ≡ Fails d v n → AtPlace (change_days doc q r) d n
  -- where the rule holds, the count is the list's whole length
  pub whole_count : (n : ℕ) → on_days doc q r ≡ Holds n → n ≡ length (change_days doc q r)
  -- two days at most for each version read, and one
  pub few : length (change_days doc q r) ≤ 2 * count (reads doc q r) 0 doc.size + 1

pub enough-days : (doc : Doc) → accept doc ≡ Accepted → (q r : Rule) → EnoughDays doc q r
enough-days doc e q r =
    let p = Slices.present-alive doc (Accept.accepted-sound doc e) in
    record {
      ascending = Changes.days_ascend doc q r;
      membership = λ d. (Changes.listed-change doc q r d, Changes.change_listed doc q r d);
      same_verdict = Changes.verdict-changes doc q r p;
      first_place = Faults.fails_place doc q r p;
      whole_count = λ n h. (Faults.holds-none doc q r n h).1;
      few = Changes.days_few doc q r;
    }

-- 5. Demand 2 on days: 'holds' exactly when no record offends on any day of the period; 'fails' gives the first day and its lowest record.
pub holds-on_days : (doc : Doc) (q r : Rule) → (on_days doc q r ≡ Holds (length (change_days doc q r))) ↔ NoFault doc q r
holds-on_days doc q r = (λ e. (Faults.holds-none doc q r _ e).0, Faults.none-holds doc q r)

pub fails_on_days : (doc : Doc) (q r : Rule) (d v n : ℕ) → on_days doc q r ≡ Fails d v n → FirstFault doc q r d v
fails_on_days doc q r d v n e = (Faults.fails_first doc q r d v n e).0

-- and in windows, with the window's start and the number of windows up to it.
pub holds-in_windows : (doc : Doc) (q r : Rule) → (in_windows doc q r ≡ Holds (length (windows r))) ↔ NoFaultAmong doc q r (windows r)
holds-in_windows doc q r = (λ e. (Windows.holds-none_in doc q r _ e).0, Windows.none-holds_in doc q r)

pub fails_in_windows : (doc : Doc) (q r : Rule) (d v n : ℕ) → in_windows doc q r ≡ Fails d v n → FirstFaultIn doc q r d v n
fails_in_windows = Windows.fails_first_in

-- Which windows a rule of the table has: window j, from 0, starts j slides after the period's begin, if that lies in the period, and ends as
-- `Timetable.IsWindow` says by the unit. So the two statements above can be read without opening `windows`.
pub which_windows : (r : Rule) → RuleRow r → (j : ℕ) (w : Window) → Nth (windows r) j w ↔ IsWindow r j w
which_windows = Timetable.which_windows

-- 6. One changed byte of an accepted image is refused with 2, of a rule image with 22, at its block.
pub node-byte_shows : (image : List ℕ) (i x : ℕ) → ((k : ℕ) → byte image k < 256) → x < 256 → i < length image → (x ≡ byte image i → ⊥)
    → read_nodes image ≡ Accepted → read_nodes (set image i x) ≡ Refused 2 (i / 512)
node-byte_shows = Changed.node-byte_shows

pub rule_byte_shows : (image : List ℕ) (i x : ℕ) → ((k : ℕ) → byte image k < 256) → x < 256 → i < length image → (x ≡ byte image i → ⊥)
    → read_rules image ≡ Accepted → read_rules (set image i x) ≡ Refused 22 (i / 512)
rule_byte_shows = Changed.rule_byte_shows

-- 7. The check's worked values.
pub check-worked : check (0 ∷ []) ∷ check (97 ∷ 98 ∷ []) ∷ check_from 4294967295 (0 ∷ []) ∷ [] ≡ 177573 ∷ 5863208 ∷ 4294967263 ∷ []
check-worked = Checks.check-worked
