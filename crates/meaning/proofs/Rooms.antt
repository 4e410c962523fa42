-- How many records an accepted image has at most, and so how long a slice and a list of change days can be.
use mathlib.Core.Path.{◌≡◌, ◌∙◌}
use mathlib.Core.Logic.{⊎_elim}
use mathlib.Core.Bool.{Bool}
use mathlib.Core.List.{List}
use Prim.Native.Nat.{ℕ, zero, suc, ◌+◌, ◌-◌, ◌*◌, ◌≤◌}
use native.Mathlib.Omega.{arith}
use lib.ListN.{length, length-map}
use Rattle.meaning.specs.declared.Node.{Node}
use Rattle.meaning.specs.declared.Rule.{Rule}
use Rattle.meaning.specs.Walk.{count}
use Rattle.meaning.specs.Block.{node_form, limit, blocks, records, record_of}
use Rattle.meaning.specs.Document.{of_nodes}
use Rattle.meaning.specs.Nodes.{node_in, nodes_of, doc_of}
use Rattle.meaning.specs.Day.{present_on, slice, change_days}
use Rattle.meaning.specs.Select.{reads}
use Rattle.meaning.proofs.Basics.{went}
use Rattle.meaning.proofs.Walks.{length_listed}
use Rattle.meaning.proofs.Sound.{SoundNodes}
use Rattle.meaning.proofs.Picks.{length_pick}
use Rattle.meaning.proofs.Changes.{days_few}

-- no more pass than are walked over
count_most : (f : ℕ → Bool) (i n : ℕ) → count f i n ≤ n
unfolding count
count_most f i zero = omega arith
count_most f i (suc n) =
    let rest = count_most f (suc i) n in
    ⊎_elim (λ y. rw y (omega arith)) (λ z. rw z (omega arith)) (went (f i))

-- full blocks, as many as an image can have
pub size-most : (image : List ℕ) → SoundNodes image → (doc_of image).size ≤ limit
unfolding doc_of of_nodes nodes_of records
size-most image s =
    let form = s.image_form in
    let some : 1 ≤ blocks image = omega (arith, form.some, form.whole) in
    let last = form.each_block (blocks image - 1) (omega arith) in
    let size : (doc_of image).size ≡ records node_form image =
    length-map (nodes_of image) (λ (n : Node). n.kind) ∙ length_listed (λ i. node_in (record_of node_form image i)) 0 (records node_form image) in
    omega (arith, size, last.few, form.few)

-- a slice has at most as many versions as there are records
pub slice-most : (image : List ℕ) → SoundNodes image → (d : ℕ) → length (slice (doc_of image) d) ≤ limit
unfolding slice
slice-most image s d = omega (arith, length_pick (present_on (doc_of image) d) 0 (doc_of image).size, count_most (present_on (doc_of image) d) 0 (doc_of image).size, size-most image s)

-- two days for each version read, and one
pub days_most : (image : List ℕ) → SoundNodes image → (q r : Rule) → length (change_days (doc_of image) q r) ≤ 2 * limit + 1
days_most image s q r = omega (arith, days_few (doc_of image) q r, count_most (reads (doc_of image) q r) 0 (doc_of image).size, size-most image s)
