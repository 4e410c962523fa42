-- Pinned examples of sequenced rules: paths, values on one day for each kind of rule, and the change days.
use mathlib.Core.Path.{refl}
use mathlib.Core.List.{List, [], ◌∷◌, map}
use Prim.Native.Nat.{ℕ}
use lib.IntN.{pos}
use Rattle.meaning.specs.declared.Verdict.{Verdict}
use Rattle.meaning.specs.declared.Verdict.TheVariants.{Holds, Fails}
use Rattle.std.specs.Prelude.{Ok}
use Rattle.meaning.specs.Document.{of_nodes}
use Rattle.meaning.proofs.Asking.{on_rule, on_changes, told, stored}
use Rattle.meaning.proofs.Opened.{opened}
use Rattle.meaning.proofs.Writing.{rule, to, between, during, nodes, table, written}
use Rattle.meaning.proofs.Pinning.{Pin, pin, Posed, pose, pin_to, Right}
use Rattle.meaning.proofs.Working.{by-pinning, by-reading}
use Rattle.meaning.proofs.PinnedImages.{deep, deep_held, shelf, shelf_held, signs}

-- examples on the bank eight deep, and on the shelf
abbrev pub on_deep : List Posed → List Pin
on_deep ps = map (pin_to (nodes deep)) ps

abbrev pub on_shelf : List Posed → List Pin
on_shelf ps = map (pin_to (nodes shelf)) ps

-- the version in record 15 of the bank eight deep, number 5, is selected: a datatype from 6 on fails there; or it is not
abbrev selects : List ℕ → Posed
selects path = pose (table (between (pos 6) (pos 9) (rule 5 0 path 0) ∷ [])) (on_rule 0) (told (Ok (Fails 0 15 1)))

abbrev passes : List ℕ → Posed
passes path = pose (table (between (pos 6) (pos 9) (rule 5 0 path 0) ∷ [])) (on_rule 0) (told (Ok (Holds 1)))

-- this record is the first that the path selects: a key on the versions, which have no value
abbrev first_selected : List ℕ → ℕ → Posed
first_selected path v = pose (table (rule 1 0 path 0 ∷ [])) (on_rule 0) (told (Ok (Fails 0 v 1)))

unfoldable pub paths : List Posed
paths =
    -- eight different names, one after the other; a star in one place and in all
    selects (11 ∷ 12 ∷ 13 ∷ 14 ∷ 15 ∷ 16 ∷ 17 ∷ 18 ∷ [])
    ∷ selects (11 ∷ 12 ∷ 13 ∷ 65535 ∷ 15 ∷ 16 ∷ 17 ∷ 18 ∷ [])
    ∷ selects (65535 ∷ 12 ∷ 13 ∷ 14 ∷ 15 ∷ 16 ∷ 17 ∷ 65535 ∷ [])
    ∷ selects (65535 ∷ 65535 ∷ 65535 ∷ 65535 ∷ 65535 ∷ 65535 ∷ 65535 ∷ 65535 ∷ [])
    -- one name another, in each place; two names exchanged; one name fewer; 65,534 is no star
    ∷ passes (19 ∷ 12 ∷ 13 ∷ 14 ∷ 15 ∷ 16 ∷ 17 ∷ 18 ∷ [])
    ∷ passes (11 ∷ 19 ∷ 13 ∷ 14 ∷ 15 ∷ 16 ∷ 17 ∷ 18 ∷ [])
    ∷ passes (11 ∷ 12 ∷ 19 ∷ 14 ∷ 15 ∷ 16 ∷ 17 ∷ 18 ∷ [])
    ∷ passes (11 ∷ 12 ∷ 13 ∷ 19 ∷ 15 ∷ 16 ∷ 17 ∷ 18 ∷ [])
    ∷ passes (11 ∷ 12 ∷ 13 ∷ 14 ∷ 19 ∷ 16 ∷ 17 ∷ 18 ∷ [])
    ∷ passes (11 ∷ 12 ∷ 13 ∷ 14 ∷ 15 ∷ 19 ∷ 17 ∷ 18 ∷ [])
    ∷ passes (11 ∷ 12 ∷ 13 ∷ 14 ∷ 15 ∷ 16 ∷ 19 ∷ 18 ∷ [])
    ∷ passes (11 ∷ 12 ∷ 13 ∷ 14 ∷ 15 ∷ 16 ∷ 17 ∷ 19 ∷ [])
    ∷ passes (11 ∷ 12 ∷ 14 ∷ 13 ∷ 15 ∷ 16 ∷ 17 ∷ 18 ∷ [])
    ∷ passes (12 ∷ 13 ∷ 14 ∷ 15 ∷ 16 ∷ 17 ∷ 18 ∷ [])
    ∷ passes (11 ∷ 12 ∷ 13 ∷ 65534 ∷ 15 ∷ 16 ∷ 17 ∷ 18 ∷ [])
    -- a path selects in its full length, no higher and no lower
    ∷ first_selected (65535 ∷ []) 1
    ∷ first_selected (11 ∷ 65535 ∷ []) 3
    ∷ first_selected (11 ∷ 12 ∷ 13 ∷ 14 ∷ 15 ∷ 16 ∷ 17 ∷ []) 13
    ∷ []

pub paths_right : Right (on_deep paths)
unfolding opened written paths deep
paths_right = by-reading (nodes deep) (of_nodes deep) deep_held paths refl

-- the shelf's mixers by their serials, its plugs by the serials they name
abbrev mixers : ℕ → List ℕ
mixers kind = rule kind 0 (1 ∷ 2 ∷ []) 3

abbrev plugs : ℕ → List ℕ
plugs kind = rule kind 0 (1 ∷ 5 ∷ []) 6

-- the verdict on this rule; on the plugs' reference to the mixers' unique serials in this period
abbrev judges : List ℕ → Verdict → Posed
judges r found = pose (table (r ∷ [])) (on_rule 0) (told (Ok found))

abbrev refers : ℕ → ℕ → Verdict → Posed
refers begin end found = pose (table (mixers 2 ∷ during begin end (to 0 (plugs 3)) ∷ [])) (on_rule 1) (told (Ok found))

unfoldable pub day_values : List Posed
day_values =
    -- unique: one value equal to a lower one's offends at the higher; two values on a day; text 7 is not the number 7, and no value is no fault
    judges (during 0 20 (mixers 2)) (Fails 0 8 1)
    ∷ judges (during 20 40 (mixers 2)) (Fails 20 8 1)
    ∷ judges (during 40 50 (mixers 2)) (Fails 40 8 1)
    ∷ judges (during 50 100 (mixers 2)) (Holds 2)
    ∷ judges (during 0 50 (plugs 2)) (Holds 3)
    ∷ judges (during 70 100 (plugs 2)) (Fails 75 15 2)
    -- key: the same, and a day without a value
    ∷ judges (during 0 20 (mixers 1)) (Fails 0 8 1)
    ∷ judges (during 20 40 (mixers 1)) (Fails 20 8 1)
    ∷ judges (during 50 100 (mixers 1)) (Holds 2)
    ∷ judges (during 0 20 (plugs 1)) (Fails 0 24 1)
    ∷ judges (during 40 50 (plugs 1)) (Fails 40 15 1)
    -- reference: found as an only value, not where the other has two; not found; two values; no value; found by its own value
    ∷ refers 0 20 (Holds 1)
    ∷ refers 0 100 (Fails 20 15 2)
    ∷ refers 40 100 (Fails 70 15 4)
    ∷ refers 75 100 (Fails 75 15 1)
    ∷ refers 50 70 (Holds 2)
    ∷ pose (table (during 0 75 (to 1 (plugs 3)) ∷ plugs 1 ∷ [])) (on_rule 0) (told (Ok (Holds 5)))
    -- reference to a rule whose field is the version itself: no value there
    ∷ pose (table (during 0 20 (to 1 (plugs 3)) ∷ rule 2 0 (1 ∷ 2 ∷ 3 ∷ []) 0 ∷ [])) (on_rule 0) (told (Ok (Holds 1)))
    ∷ pose (table (during 0 20 (to 1 (plugs 3)) ∷ rule 2 0 (1 ∷ 2 ∷ []) 0 ∷ [])) (on_rule 0) (told (Ok (Fails 0 15 1)))
    -- cardinality: field versions with and without a value; both bounds
    ∷ judges (during 40 50 (between (pos 1) (pos 1) (mixers 4))) (Fails 40 8 1)
    ∷ judges (during 40 50 (between (pos 1) (pos 2) (mixers 4))) (Holds 1)
    ∷ judges (during 40 50 (between (pos 2) (pos 2) (mixers 4))) (Fails 40 3 1)
    ∷ judges (between (pos 1) (pos 2) (mixers 4)) (Holds 6)
    ∷ judges (during 0 20 (between (pos 0) (pos 1) (plugs 4))) (Holds 1)
    ∷ judges (during 0 20 (between (pos 1) (pos 1) (plugs 4))) (Fails 0 24 1)
    -- datatype: both bounds, a text between them, no value
    ∷ judges (during 40 100 (between (pos 7) (pos 7) (plugs 5))) (Fails 70 15 3)
    ∷ judges (during 40 100 (between (pos 8) (pos 9) (plugs 5))) (Fails 50 15 2)
    ∷ judges (during 40 100 (between (pos 7) (pos 8) (plugs 5))) (Holds 5)
    ∷ judges (during 0 20 (between (pos 0) (pos 99) (plugs 5))) (Fails 0 15 1)
    ∷ judges (during 40 50 (between (pos 0) (pos 99) (plugs 5))) (Holds 1)
    ∷ []

pub day-values : Right (on_shelf day_values)
unfolding opened written day_values shelf
day-values = by-reading (nodes shelf) (of_nodes shelf) shelf_held day_values refl

unfoldable pub day_lists : List Posed
day_lists =
    -- days on which a selected version or a field version begins or ends, from the period's first day on and before its end
    pose (table (mixers 1 ∷ [])) (on_changes 0 6) (stored (Ok 6) (0 ∷ 20 ∷ 40 ∷ 50 ∷ 60 ∷ 100 ∷ []))
    ∷ pose (table (during 5 60 (mixers 1) ∷ [])) (on_changes 0 4) (stored (Ok 4) (5 ∷ 20 ∷ 40 ∷ 50 ∷ []))
    ∷ pose (table (during 20 21 (mixers 1) ∷ [])) (on_changes 0 1) (stored (Ok 1) (20 ∷ []))
    -- field 0: the selected versions alone; a path that selects nothing
    ∷ pose (table (rule 1 0 (1 ∷ 2 ∷ []) 0 ∷ [])) (on_changes 0 2) (stored (Ok 2) (0 ∷ 100 ∷ []))
    ∷ pose (table (during 7 99 (rule 1 0 (1 ∷ 9 ∷ []) 3) ∷ [])) (on_changes 0 1) (stored (Ok 1) (7 ∷ []))
    -- a reference reads what its own rule and the referred one read; a unique does not
    ∷ pose (table (mixers 2 ∷ to 0 (plugs 3) ∷ [])) (on_changes 1 9) (stored (Ok 9) (0 ∷ 20 ∷ 40 ∷ 50 ∷ 60 ∷ 70 ∷ 75 ∷ 80 ∷ 100 ∷ []))
    ∷ pose (table (mixers 2 ∷ plugs 2 ∷ [])) (on_changes 1 8) (stored (Ok 8) (0 ∷ 20 ∷ 40 ∷ 50 ∷ 70 ∷ 75 ∷ 80 ∷ 100 ∷ []))
    ∷ []

pub day-lists : Right (on_shelf day_lists)
unfolding opened written day_lists shelf
day-lists = by-reading (nodes shelf) (of_nodes shelf) shelf_held day_lists refl

-- the versions of a name are unique by their own values
abbrev own_unique : ℕ → Verdict → Pin
own_unique name found = pin (nodes signs) (table (rule 2 0 (1 ∷ name ∷ []) 0 ∷ [])) (on_rule 0) (told (Ok found))

unfoldable pub day_signs : List Pin
day_signs =
    -- 5 is not −6, whichever is first; −6 is −6
    own_unique 2 (Holds 2)
    ∷ own_unique 3 (Holds 2)
    ∷ own_unique 65535 (Fails 0 7 1)
    ∷ []

pub day-signs : Right day_signs
unfolding opened written day_signs signs
day-signs = by-pinning day_signs refl
