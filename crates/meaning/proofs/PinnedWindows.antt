-- Pinned examples of non-sequenced rules: windows of days and of months, and the values of a window for each kind of rule.
use Rattle.std.specs.Prelude.{Ok}
use mathlib.Core.Path.{refl}
use mathlib.Core.List.{List, [], ◌∷◌, map}
use Prim.Native.Nat.{ℕ}
use lib.IntN.{ℤ, pos, negsuc}
use Rattle.meaning.specs.declared.Node.{Node}
use Rattle.meaning.specs.declared.Verdict.{Verdict}
use Rattle.meaning.specs.declared.Verdict.TheVariants.{Holds, Fails}
use Rattle.meaning.specs.Document.{of_nodes}
use Rattle.meaning.proofs.Asking.{on_rule, told}
use Rattle.meaning.proofs.Opened.{opened}
use Rattle.meaning.proofs.Writing.{bare, number, text, rule, distinct, to, between, during, days, months, nodes, table, written}
use Rattle.meaning.proofs.Pinning.{Pin, pin, Posed, pose, pin_to, Right}
use Rattle.meaning.proofs.Working.{by-pinning, by-reading}
use Rattle.meaning.proofs.PinnedImages.{holders, holders-held, meter, meter_held, steps_by}

-- examples on the meter, and on the holders
abbrev pub on_meter : List Posed → List Pin
on_meter ps = map (pin_to (nodes meter)) ps

abbrev pub on_holders : List Posed → List Pin
on_holders ps = map (pin_to (nodes holders)) ps

-- the verdict on this rule
abbrev judges : List ℕ → Verdict → Posed
judges r found = pose (table (r ∷ [])) (on_rule 0) (told (Ok found))

-- the mixer of record 3 has from .. to .. losses in each window of this period
abbrev pub losses : ℕ → ℕ → ℕ → ℕ → List ℕ
losses least most begin end = during begin end (between (pos least) (pos most) (rule 4 1 (1 ∷ 2 ∷ []) 4))

-- the losses are on the days 5, 17, 28, 334, 365, 396, 424 and 429
unfoldable pub spans : List Posed
spans =
    -- one window: its first day counts, its end does not; a version's last day counts, its end does not
    judges (losses 2 2 5 18) (Holds 1)
    ∷ judges (losses 1 9 6 17) (Fails 6 3 1)
    ∷ judges (losses 1 1 6 18) (Holds 1)
    ∷ judges (losses 1 1 5 17) (Holds 1)
    ∷ judges (losses 0 8 0 36525) (Holds 1)
    ∷ judges (losses 0 7 0 36525) (Fails 0 3 1)
    -- windows of ten days: [0,10) [10,20), the next starts after the period; [20,28) has no loss and is shortened, as [20,29) is, which has one
    ∷ judges (days 10 10 (losses 1 1 0 20)) (Holds 2)
    ∷ judges (days 10 10 (losses 1 1 0 21)) (Holds 3)
    ∷ judges (days 10 10 (losses 0 0 18 28)) (Holds 1)
    ∷ judges (days 10 10 (losses 0 0 20 29)) (Fails 20 3 1)
    ∷ judges (days 10 10 (losses 1 1 0 29)) (Holds 3)
    -- a slide below the length: [8,18) [12,20) [16,20); and [0,18) [9,27) [18,30) [27,30)
    ∷ judges (days 10 4 (losses 1 1 8 20)) (Holds 3)
    ∷ judges (days 18 9 (losses 1 2 0 30)) (Holds 4)
    ∷ judges (days 18 9 (losses 2 2 0 30)) (Fails 9 3 2)
    ∷ judges (days 18 9 (losses 0 1 0 30)) (Fails 0 3 1)
    -- a slide above the length: [4,7) [16,19) [28,30), and [0,6) [11,17)
    ∷ judges (days 3 12 (losses 1 1 4 30)) (Holds 3)
    ∷ judges (days 6 11 (losses 1 1 0 18)) (Fails 11 3 2)
    ∷ judges (days 7 11 (losses 1 1 0 22)) (Holds 2)
    -- a window longer than the period, and a slide past it
    ∷ judges (days 36525 36525 (losses 2 2 5 18)) (Holds 1)
    -- months over the end of the year 2000: [305,335) [335,366) [366,397) [397,425) [425,430)
    ∷ judges (months 1 1 (losses 1 1 305 430)) (Holds 5)
    ∷ judges (months 1 1 (losses 0 0 425 430)) (Fails 425 3 1)
    ∷ judges (months 1 1 (losses 0 0 425 429)) (Holds 1)
    ∷ judges (months 1 1 (losses 1 1 305 425)) (Holds 4)
    -- two months at a time: [305,366) [335,397) [366,425) [397,430) [425,430); every second month; every second two
    ∷ judges (months 2 1 (losses 2 2 305 430)) (Holds 5)
    ∷ judges (months 2 1 (losses 1 1 366 425)) (Fails 366 3 1)
    ∷ judges (months 2 1 (losses 0 1 397 425)) (Holds 1)
    ∷ judges (months 1 2 (losses 1 1 305 430)) (Holds 3)
    ∷ judges (months 2 2 (losses 2 2 305 425)) (Holds 2)
    -- years: [0,366) has five losses, [366,430) three
    ∷ judges (months 12 12 (losses 3 5 0 430)) (Holds 2)
    ∷ judges (months 12 12 (losses 6 6 0 430)) (Fails 0 3 1)
    ∷ judges (months 12 12 (losses 0 2 366 430)) (Fails 366 3 1)
    ∷ judges (months 12 12 (losses 3 4 0 430)) (Fails 0 3 1)
    ∷ []

pub spans_right : Right (on_meter spans)
unfolding opened written spans meter
spans_right = by-reading (nodes meter) (of_nodes meter) meter_held spans refl

-- the mixers by their serials, the plug by the serials it names, and its reference to the mixers' key
abbrev mixers : ℕ → List ℕ
mixers kind = rule kind 1 (1 ∷ 2 ∷ []) 3

abbrev plugs : ℕ → List ℕ
plugs kind = rule kind 1 (1 ∷ 5 ∷ []) 6

abbrev refers : List ℕ → Verdict → Posed
refers r found = pose (table (r ∷ rule 1 0 (1 ∷ 2 ∷ []) 3 ∷ [])) (on_rule 0) (told (Ok found))

unfoldable pub window_values : List Posed
window_values =
    -- key: mixer 4 has mixer 2's text 7 at last; one mixer in two records shares with itself; number 7 is not text 7; no value, where it is met
    judges (mixers 1) (Fails 0 11 1)
    ∷ judges (during 50 80 (mixers 1)) (Holds 1)
    ∷ judges (during 50 81 (mixers 1)) (Fails 50 11 1)
    ∷ judges (during 90 100 (mixers 1)) (Fails 90 11 1)
    ∷ judges (during 0 60 (mixers 1)) (Fails 0 22 1)
    ∷ judges (during 29 60 (mixers 1)) (Fails 29 22 1)
    ∷ judges (during 30 60 (mixers 1)) (Holds 1)
    -- unique: the same without the last; several values are no fault; the start of a window is shown
    ∷ judges (mixers 2) (Fails 0 11 1)
    ∷ judges (during 0 60 (mixers 2)) (Holds 1)
    ∷ judges (plugs 2) (Holds 1)
    ∷ judges (during 60 100 (days 20 20 (mixers 2))) (Fails 80 11 2)
    ∷ judges (during 60 100 (days 15 15 (mixers 2))) (Fails 75 11 2)
    -- reference: text 9 is nobody's; the number 7 is mixer 4's up to day 79; a value held on another day of the window will do
    ∷ refers (to 1 (plugs 3)) (Fails 0 16 1)
    ∷ refers (during 0 95 (to 1 (plugs 3))) (Holds 1)
    ∷ refers (during 79 95 (to 1 (plugs 3))) (Holds 1)
    ∷ refers (during 80 95 (to 1 (plugs 3))) (Fails 80 16 1)
    ∷ refers (during 0 95 (days 40 40 (to 1 (plugs 3)))) (Fails 80 16 3)
    -- cardinality: by item number, mixer 2 has 2 valued serials, mixer 4 two, mixer 8 none; each of them that is met offends
    ∷ judges (between (pos 0) (pos 2) (mixers 4)) (Holds 1)
    ∷ judges (between (pos 0) (pos 1) (mixers 4)) (Fails 0 3 1)
    ∷ judges (between (pos 1) (pos 2) (mixers 4)) (Fails 0 22 1)
    ∷ judges (during 30 100 (between (pos 1) (pos 2) (mixers 4))) (Holds 1)
    ∷ judges (during 50 100 (between (pos 0) (pos 1) (mixers 4))) (Fails 50 11 1)
    ∷ judges (between (pos 3) (pos 3) (plugs 4)) (Holds 1)
    -- distinct values: mixer 2 has one, mixer 4 two of one number
    ∷ judges (distinct (between (pos 0) (pos 2) (mixers 4))) (Holds 1)
    ∷ judges (distinct (between (pos 0) (pos 1) (mixers 4))) (Fails 0 11 1)
    ∷ judges (distinct (during 0 60 (between (pos 0) (pos 1) (mixers 4)))) (Holds 1)
    ∷ judges (distinct (during 0 60 (between (pos 2) (pos 9) (mixers 4)))) (Fails 0 3 1)
    -- datatype: a text offends, whatever the bounds
    ∷ judges (during 60 80 (between (negsuc 0) (pos 9) (mixers 5))) (Fails 60 9 1)
    ∷ []

pub window-values : Right (on_holders window_values)
unfolding opened written window_values holders
window-values = by-reading (nodes holders) (of_nodes holders) holders-held window_values refl

-- losses 0 in record 5, 100 in 6, 160 in 12 and what is given in 8; the steps from one to the next are to lie in low .. high
abbrev steps : Node → ℤ → ℤ → Verdict → Pin
steps between8 low high found = pin (nodes (steps_by between8)) (table (between low high (rule 5 1 (1 ∷ 2 ∷ []) 4) ∷ [])) (on_rule 0) (told (Ok found))

unfoldable pub window_steps : List Pin
window_steps =
    -- a number that lies wholly between parts the first two; both bounds; the third is of the same mixer in another record
    steps (number 7 10 20 (pos 50)) (pos 50) (pos 60) (Holds 1)
    ∷ steps (number 7 10 20 (pos 50)) (pos 51) (pos 60) (Fails 0 6 1)
    ∷ steps (number 7 10 20 (pos 50)) (pos 50) (pos 59) (Fails 0 12 1)
    ∷ steps (number 7 10 20 (pos 40)) (negsuc 99) (pos 59) (Fails 0 6 1)
    ∷ steps (number 7 10 20 (pos 60)) (negsuc 99) (pos 59) (Fails 0 8 1)
    -- down and up: −10, then 110
    ∷ steps (number 7 10 20 (negsuc 9)) (negsuc 9) (pos 110) (Holds 1)
    ∷ steps (number 7 10 20 (negsuc 9)) (negsuc 8) (pos 110) (Fails 0 8 1)
    ∷ steps (number 7 10 20 (negsuc 9)) (negsuc 9) (pos 109) (Fails 0 6 1)
    -- a text parts them too, is no start of a step, and offends itself; a version without a value does none of it
    ∷ steps (text 7 10 20 5) (negsuc 9) (pos 60) (Fails 0 8 1)
    ∷ steps (bare 7 10 20) (negsuc 9) (pos 60) (Fails 0 6 1)
    ∷ steps (bare 7 10 20) (negsuc 9) (pos 100) (Holds 1)
    -- a number that begins a day sooner or ends a day later does not part them, and has itself a step to one of them only
    ∷ steps (number 7 9 20 (pos 50)) (pos 50) (pos 60) (Fails 0 6 1)
    ∷ steps (number 7 10 21 (pos 50)) (pos 50) (pos 60) (Fails 0 6 1)
    ∷ steps (number 7 9 21 (pos 999)) (negsuc 999) (pos 100) (Holds 1)
    ∷ []

pub window-steps : Right window_steps
unfolding opened written window_steps steps_by
window-steps = by-pinning window_steps refl
