-- Pinned examples of request 5 of 02: what a nil does under each kind of rule, on one day and in windows.
use Rattle.std.specs.Prelude.{Ok}
use mathlib.Core.Path.{refl}
use mathlib.Core.List.{List, [], ◌∷◌, map}
use Prim.Native.Nat.{ℕ}
use lib.IntN.{ℤ, pos, negsuc}
use Rattle.meaning.specs.declared.Node.{Node}
use Rattle.meaning.specs.declared.Verdict.{Verdict}
use Rattle.meaning.specs.declared.Verdict.TheVariants.{Holds, Fails}
use Rattle.meaning.specs.Document.{of_nodes}
use Rattle.meaning.proofs.Asking.{on_rule, told}
use Rattle.meaning.proofs.Opened.{opened}
use Rattle.meaning.proofs.Writing.{number, text, nil, rule, distinct, to, between, during, nodes, table, written}
use Rattle.meaning.proofs.Pinning.{Pin, pin, Posed, pose, pin_to, Right}
use Rattle.meaning.proofs.Working.{by-pinning, by-reading}
use Rattle.meaning.proofs.PinnedImages.{unknown, unknown-held, steps_by}

-- examples on the bank of nils
abbrev pub on_unknown : List Posed → List Pin
on_unknown ps = map (pin_to (nodes unknown)) ps

-- by kind and mode: the mixers by their serials, the serials by their own values, the plug by the serials it names
abbrev mixers : ℕ → ℕ → List ℕ
mixers kind mode = rule kind mode (1 ∷ 2 ∷ []) 3

abbrev serials : ℕ → ℕ → List ℕ
serials kind mode = rule kind mode (1 ∷ 2 ∷ 3 ∷ []) 0

abbrev plug : ℕ → ℕ → List ℕ
plug kind mode = rule kind mode (1 ∷ 5 ∷ []) 6

-- the verdict on a rule over this period; on a reference to the second rule, which is a unique
abbrev judges : ℕ → ℕ → List ℕ → Verdict → Posed
judges begin end r found = pose (table (during begin end r ∷ [])) (on_rule 0) (told (Ok found))

abbrev refers : ℕ → ℕ → List ℕ → List ℕ → Verdict → Posed
refers begin end r q found = pose (table (during begin end (to 1 r) ∷ q ∷ [])) (on_rule 0) (told (Ok found))

unfoldable pub nil_days : List Posed
nil_days =
    -- key: a nil alone offends; two nils; none; a nil beside a value
    judges 0 20 (mixers 1 0) (Fails 0 3 1)
    ∷ judges 20 30 (mixers 1 0) (Fails 20 9 1)
    ∷ judges 30 40 (mixers 1 0) (Holds 1)
    ∷ judges 30 90 (mixers 1 0) (Fails 40 9 2)
    -- unique: two nils under two versions, and a nil beside a zero, are not equal; two nils are two values, and so are a value and a nil
    ∷ judges 0 20 (mixers 2 0) (Holds 1)
    ∷ judges 90 100 (mixers 2 0) (Holds 1)
    ∷ judges 20 30 (mixers 2 0) (Fails 20 9 1)
    ∷ judges 30 90 (mixers 2 0) (Fails 40 9 2)
    -- reference: a nil is not found among nils; a value not where there are nils, nor beside one; a nil beside a value that is found
    ∷ refers 0 10 (plug 3 0) (mixers 2 0) (Fails 0 18 1)
    ∷ refers 10 30 (plug 3 0) (mixers 2 0) (Fails 10 18 1)
    ∷ refers 30 40 (plug 3 0) (mixers 2 0) (Holds 1)
    ∷ refers 30 60 (plug 3 0) (mixers 2 0) (Fails 40 18 2)
    ∷ refers 60 90 (plug 3 0) (mixers 2 0) (Fails 70 18 2)
    -- referring to its own rule, a number finds itself, and a nil does not
    ∷ refers 30 40 (mixers 3 0) (mixers 2 0) (Holds 1)
    ∷ refers 0 20 (mixers 3 0) (mixers 2 0) (Fails 0 3 1)
    ∷ refers 0 20 (serials 3 0) (serials 2 0) (Fails 0 5 1)
    -- cardinality: a nil is counted, alone and beside a value
    ∷ judges 0 20 (between (pos 1) (pos 1) (mixers 4 0)) (Holds 1)
    ∷ judges 40 60 (between (pos 0) (pos 1) (mixers 4 0)) (Fails 40 9 1)
    -- datatype: a nil is passed over, a number beside it is not
    ∷ judges 0 20 (between (pos 7) (pos 8) (mixers 5 0)) (Holds 1)
    ∷ judges 0 60 (between (pos 7) (pos 8) (mixers 5 0)) (Holds 4)
    ∷ judges 40 60 (between (pos 7) (pos 7) (mixers 5 0)) (Fails 40 9 1)
    ∷ []

pub nil-days : Right (on_unknown nil_days)
unfolding opened written nil_days unknown
nil-days = by-reading (nodes unknown) (of_nodes unknown) unknown-held nil_days refl

unfoldable pub nil_windows : List Posed
nil_windows =
    -- key: a nil alone offends; a nil and a value, whichever is first; values alone do not
    judges 0 20 (mixers 1 1) (Fails 0 3 1)
    ∷ judges 15 40 (mixers 1 1) (Fails 15 3 1)
    ∷ judges 30 60 (mixers 1 1) (Fails 30 9 1)
    ∷ judges 60 90 (mixers 1 1) (Holds 1)
    -- unique: nils are equal to no nil and to no zero
    ∷ judges 0 20 (mixers 2 1) (Holds 1)
    ∷ judges 0 100 (mixers 2 1) (Holds 1)
    -- reference: a nil is not found among nils; a value is, where a nil stands beside it; a nil beside a value that is found
    ∷ refers 0 10 (plug 3 1) (mixers 2 0) (Fails 0 18 1)
    ∷ refers 10 70 (plug 3 1) (mixers 2 0) (Holds 1)
    ∷ refers 10 71 (plug 3 1) (mixers 2 0) (Fails 10 18 1)
    -- referring to its own rule, a number finds itself, and a nil does not
    ∷ refers 60 90 (mixers 3 1) (mixers 2 1) (Holds 1)
    ∷ refers 0 20 (mixers 3 1) (mixers 2 1) (Fails 0 3 1)
    ∷ refers 0 20 (serials 3 1) (serials 2 1) (Fails 0 5 1)
    -- cardinality: A has a nil and a value, B two nils and a value; distinct values leave nils out
    ∷ judges 0 40 (between (pos 2) (pos 3) (mixers 4 1)) (Holds 1)
    ∷ judges 0 40 (between (pos 0) (pos 2) (mixers 4 1)) (Fails 0 9 1)
    ∷ judges 0 40 (distinct (between (pos 1) (pos 1) (mixers 4 1))) (Holds 1)
    ∷ judges 0 20 (between (pos 1) (pos 1) (mixers 4 1)) (Holds 1)
    ∷ judges 0 20 (distinct (between (pos 1) (pos 9) (mixers 4 1))) (Fails 0 3 1)
    -- datatype: a nil alone; nils before numbers start no step, and nils after them end none: the one step is from 7 to 0
    ∷ judges 0 20 (between (pos 5) (pos 5) (mixers 5 1)) (Holds 1)
    ∷ judges 0 60 (between (pos 5) (pos 5) (mixers 5 1)) (Holds 1)
    ∷ judges 60 100 (between (pos 5) (pos 5) (mixers 5 1)) (Holds 1)
    ∷ judges 0 100 (between (negsuc 6) (negsuc 6) (mixers 5 1)) (Holds 1)
    ∷ judges 0 100 (between (negsuc 5) (pos 9) (mixers 5 1)) (Fails 0 7 1)
    ∷ []

pub nil-windows : Right (on_unknown nil_windows)
unfolding opened written nil_windows unknown
nil-windows = by-reading (nodes unknown) (of_nodes unknown) unknown-held nil_windows refl

-- losses 0 in record 5, 100 in 6, 160 in 12 and what is given in 8; the steps from one to the next are to lie in low .. high
abbrev steps : Node → ℤ → ℤ → Verdict → Pin
steps between8 low high found = pin (nodes (steps_by between8)) (table (between low high (rule 5 1 (1 ∷ 2 ∷ []) 4) ∷ [])) (on_rule 0) (told (Ok found))

unfoldable pub nil_steps : List Pin
nil_steps =
    -- a nil between two numbers leaves their step of 100 as it is, and has no step itself; a number in its place has two, and a text offends
    steps (nil 7 10 20) (pos 50) (pos 60) (Fails 0 6 1)
    ∷ steps (nil 7 10 20) (pos 60) (pos 100) (Holds 1)
    ∷ steps (number 7 10 20 (pos 50)) (pos 50) (pos 60) (Holds 1)
    ∷ steps (text 7 10 20 0) (pos 60) (pos 100) (Fails 0 8 1)
    ∷ []

pub nil-steps : Right nil_steps
unfolding opened written nil_steps steps_by
nil-steps = by-pinning nil_steps refl
