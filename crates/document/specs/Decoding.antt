-- What the code of the record pass works out in between: one record decoded (MEANING 13: 4 and 5), and a depth by the depths of lower records.
use Rattle.std.specs.Prelude.{ℕ, ◌+◌, cond, List, eqb, get_or, Result, Ok, Err}
use Rattle.meaning.specs.declared.Node.{Node}
use Rattle.meaning.specs.Nodes.{node_fields}

-- the record where its spare bytes are 0 and its fields fit, else the number of the refusal
unfoldable pub decoded : Node → Result Node ℕ
decoded n = cond (eqb n.spare 0) (cond (node_fields n) (Ok n) (Err 5)) (Err 4)

-- the depth of record i, of this kind and with this parent, where the depths of lower records stand in a list
unfoldable pub depth_by : ℕ → ℕ → List ℕ → ℕ → ℕ
depth_by kind parent deep i = cond {A = ℕ} (eqb kind 1) 1 0 + cond {A = ℕ} (eqb i 0) 0 (get_or deep parent 0)
