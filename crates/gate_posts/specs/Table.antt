-- The 30 gate-post examples of RULES 9 (P1 to P6, E1 to E3, Z1 to Z4, R1 to R6, A1, A2, K1, K2, S1, S2, F1 to F5) as a single table,
-- `gate_posts`, with a single statement, `GatePostsHold`: the definitions that the public calls promise give every one of them.
use Rattle.std.specs.Prelude.{ℕ, suc, ◌*◌, ◌^◌, ◌≡◌, true, false, cond, List, [], ◌∷◌, ◌++◌, pos, negsuc, replicate, take, Float}
use Rattle.std.specs.Float.{nan, inf, fin}
use Rattle.std.specs.Float.Ieee.{neg}
use Rattle.floats.specs.Float.{nought, one, minus_infinity}
use Rattle.lists.specs.Lists.{after}
use Rattle.answer.specs.Answer.{done, refuse, is_done, answered}
use Rattle.answer.specs.declared.Answer.{Answer}
use Rattle.answer.specs.declared.Refusal.TheVariants.{NotGood, UnknownSymbol, ZeroMass, BadLayout, BadSum, NoRival, BadIndex}
use Rattle.kernels.specs.Calls.{exp_answer, ln_answer}
use Rattle.kernels.specs.Ln.{ln2}
use Rattle.probs.specs.Calls.{ln_sum_exp_answer, ln_sub_exp_answer}
use Rattle.model.specs.Lent.{Tables, Lent, tables_of, S, M, T}
use Rattle.model.specs.Model.{model_of}
use Rattle.best_path.specs.Walk.{best_path, best_value}
use Rattle.viterbi.specs.Call as Viterbi
use Rattle.rival.specs.Call as Rival
use Rattle.rival.specs.Call.{asked, without, rivalry}
use Rattle.likelihood.specs.Call.{forward_answer, backward_answer}
use Rattle.baum_welch.specs.Call as BaumWelch
use Rattle.baum_welch.specs.Call.{mass_answer, walks_of}
use Rattle.file_layout.specs.Layout.{file_length, model_file}
use Rattle.file_layout.specs.Reading.{shape_of, model_in}
use Rattle.file_laws.specs.Flip.{flipped}
use Rattle.model_file.specs.Call as ModelFile
use Rattle.model_file.specs.Call.{no_shape, read_check, write_check}
use Rattle.gate_posts.specs.Models.{minus, least, model_p, changed_p, ending_p, model_z, changed_z, minus_zeros, one_state, model_a}
use Rattle.gate_posts.specs.Files.{file_p, file_e}

-- a call; outputs have exactly the room that they need, but that of a file has a byte more
pub data Call : Type 0 where
  viterbi : Lent → Call
  rival : Lent → ℕ → Call
  forward : Lent → Call
  backward : Lent → Call
  baum_welch : Lent → Call
  exp : Float → Call
  ln : Float → Call
  ln_sum_exp : List Float → Call
  ln_sub_exp : Float → Float → Call
  read_model : List ℕ → Call
  write_model : Tables → Call

-- a path's bytes before a call: no state is 255, so what is not written shows
abbrev pub unwritten : Lent → List ℕ
unwritten l = replicate (T l) 255

abbrev pub viterbi_outputs : Lent → Viterbi.Outputs
viterbi_outputs l = Viterbi.outputs (unwritten l) (replicate (T l * S l) nought) (replicate (T l * S l) 0)

abbrev pub rival_outputs : Lent → Rival.Outputs
rival_outputs l = Rival.outputs (unwritten l) (unwritten l) (replicate (T l * S l) nought) (replicate (T l * S l) 0)

abbrev pub training_outputs : Lent → BaumWelch.Outputs
training_outputs l =
    BaumWelch.outputs (replicate (S l * S l) nought) (replicate (S l * M l) nought) (replicate (S l) nought) (replicate (S l) nought)
    (replicate (T l * S l) nought) (replicate (T l * S l) nought)

-- the tables that a reader is lent, with room for 2 states and 2 symbols: no entry that is read is a NaN, so what is not written shows
abbrev pub unread : Tables
unread = tables_of no_shape (replicate 4 nan) (replicate 4 nan) (replicate 2 nan) (replicate 2 nan)

abbrev pub reading_outputs : ModelFile.Outputs
reading_outputs = ModelFile.outputs unread.transition unread.emission unread.initial unread.end

-- a file's bytes before a call: no byte of the examples' files is 0xa5
abbrev pub file_output : Tables → List ℕ
file_output m = replicate (suc (file_length m.shape)) 0xa5

-- what the call promises to answer
abbrev pub answer : Call → Answer
answer (viterbi l) = answered (Viterbi.checked l (viterbi_outputs l)) (best_value (model_of l) (T l))
answer (rival l i) = (rivalry (asked l i) (rival_outputs l)).answer
answer (forward l) = forward_answer l (T l * S l)
answer (backward l) = backward_answer l (T l * S l)
answer (baum_welch l) =
    let o = training_outputs l in
    cond (is_done (BaumWelch.checked l o)) (mass_answer (model_of l) (walks_of l)) (BaumWelch.checked l o)
answer (exp d) = exp_answer d
answer (ln x) = ln_answer x
answer (ln_sum_exp xs) = ln_sum_exp_answer xs
answer (ln_sub_exp x y) = ln_sub_exp_answer x y
answer (read_model file) = answered (read_check file reading_outputs) nought
answer (write_model m) = answered (write_check m (file_output m)) nought

-- the state that the best path has at a sample, its value, and the bytes of both paths
pub record Rivals : Type 0 where
  pub chosen : ℕ
  pub best : Float
  pub path : List ℕ
  pub rival_path : List ℕ

-- what the examples look at after a call: nothing, the bytes of a path or a file, a best path with its rival, or a model with its shape
pub data Left : Type 0 where
  nothing : Left
  bytes : List ℕ → Left
  rivals : Rivals → Left
  model : Tables → Left

-- what a call of `rival` promises to tell beside its answer, and both paths that it promises to leave
abbrev pub rivals_left : Lent → ℕ → Rivals
rivals_left l i =
    let q = asked l i in
    let o = rival_outputs l in
    let is_told = is_done (Rival.checked q o) in
    record {
      chosen = (rivalry q o).chosen;
      best = (rivalry q o).best;
      path = after is_told (best_path (model_of l) (T l)) (unwritten l);
      rival_path = after is_told (best_path (without q) (T l)) (unwritten l);
    }

-- the model that the reader promises to leave, with the shape that it gives
abbrev pub model_left : List ℕ → Tables
model_left file =
    let is_read = is_done (read_check file reading_outputs) in
    tables_of
    (cond is_read (shape_of file) no_shape)
    (after is_read (model_in file).transition unread.transition)
    (after is_read (model_in file).emission unread.emission)
    (after is_read (model_in file).initial unread.initial)
    (after is_read (model_in file).end unread.end)

-- and what each call promises to leave
abbrev pub left : Call → Left
left (viterbi l) = bytes (after (is_done (Viterbi.checked l (viterbi_outputs l))) (best_path (model_of l) (T l)) (unwritten l))
left (rival l i) = rivals (rivals_left l i)
left (forward l) = nothing
left (backward l) = nothing
left (baum_welch l) = nothing
left (exp d) = nothing
left (ln x) = nothing
left (ln_sum_exp xs) = nothing
left (ln_sub_exp x y) = nothing
left (read_model file) = model (model_left file)
left (write_model m) = bytes (after (is_done (write_check m (file_output m))) (model_file m) (file_output m))

-- a call, what it is to answer, and what it is to leave
pub record Example : Type 0 where
  pub call : Call
  pub answers : Answer
  pub leaves : Left

abbrev pub decodes : Lent → Float → List ℕ → Example
decodes l v p = record { call = viterbi l; answers = done v; leaves = bytes p }

abbrev pub refuses : Lent → Answer → Example
refuses l a = record { call = viterbi l; answers = a; leaves = bytes (unwritten l) }

-- at sample i the best path p, of value b, has state s, and its strongest rival is r, of value v
abbrev pub rivalled : Lent → ℕ → ℕ → Float → List ℕ → Float → List ℕ → Example
rivalled l i s b p v r =
    record { call = rival l i; answers = done v; leaves = rivals (record { chosen = s; best = b; path = p; rival_path = r }) }

abbrev pub unrivalled : Lent → ℕ → Answer → Example
unrivalled l i a =
    let untold : Rivals = record { chosen = 0; best = minus_infinity; path = unwritten l; rival_path = unwritten l } in
    record { call = rival l i; answers = a; leaves = rivals untold }

abbrev pub gives : Call → Answer → Example
gives c a = record { call = c; answers = a; leaves = nothing }

abbrev pub writes : Tables → List ℕ → Example
writes m file = record { call = write_model m; answers = done nought; leaves = bytes (file ++ (0xa5 ∷ [])) }

abbrev pub reads : List ℕ → Tables → Example
reads file m = record { call = read_model file; answers = done nought; leaves = model m }

abbrev pub rejects : List ℕ → Answer → Example
rejects file a = record { call = read_model file; answers = a; leaves = model unread }

abbrev pub two : Float
two = fin false 1 (pos 1)

abbrev pub half : Float
half = fin false 1 (negsuc 0)

abbrev pub plus_infinity : Float
plus_infinity = inf false

unfoldable pub gate_posts : List Example
gate_posts =
    -- P1 has three samples, P2 one, P3 none
    decodes (model_p (0 ∷ 1 ∷ 1 ∷ [])) (minus 7) (0 ∷ 1 ∷ 1 ∷ [])
    ∷ decodes (model_p (1 ∷ [])) (minus 3) (1 ∷ [])
    ∷ decodes (model_p []) minus_infinity []
    -- P4 has a sample that is no symbol, P5 a NaN, P6 an entry just above zero; -0.0 in its place is good
    ∷ refuses (model_p (0 ∷ 1 ∷ 2 ∷ [])) (refuse UnknownSymbol 4 2)
    ∷ refuses (changed_p nan (minus 1) (0 ∷ 1 ∷ 1 ∷ [])) (refuse NotGood 0 0)
    ∷ refuses (changed_p (minus 1) least (0 ∷ 1 ∷ 1 ∷ [])) (refuse NotGood 1 3)
    ∷ decodes (changed_p (minus 1) (neg nought) (0 ∷ 1 ∷ 1 ∷ [])) (minus 5) (0 ∷ 1 ∷ 1 ∷ [])
    -- E1: with an end state the path of P1 ends in the other state, since the way out of state 1 is dear. E2: of equal sums the
    -- highest-numbered state's is taken
    ∷ decodes (ending_p (nought ∷ minus 4 ∷ []) (0 ∷ 1 ∷ 1 ∷ [])) (minus 10) (0 ∷ 1 ∷ 0 ∷ [])
    ∷ decodes (ending_p (minus 1 ∷ minus 4 ∷ []) (0 ∷ 1 ∷ 1 ∷ [])) (minus 11) (0 ∷ 1 ∷ 1 ∷ [])
    -- E3: without an end state nothing is added, so that -0.0 stays; with one +0.0 is added to it
    ∷ decodes (minus_zeros false (0 ∷ [])) (neg nought) (1 ∷ [])
    ∷ decodes (minus_zeros true (0 ∷ [])) nought (1 ∷ [])
    -- Z1: of equal paths the one of the highest states is given
    ∷ decodes (model_z (0 ∷ 0 ∷ [])) nought (1 ∷ 1 ∷ [])
    -- Z3: no path is possible
    ∷ decodes (changed_z 3 minus_infinity (0 ∷ 0 ∷ [])) minus_infinity (2 ∷ 2 ∷ [])
    -- Z2: both walks sum two ones; ln2 is 0.6931471805599453
    ∷ gives (forward (model_z (0 ∷ []))) (done ln2)
    ∷ gives (backward (model_z (0 ∷ []))) (done ln2)
    -- Z4: after one sample without an end state nothing is left of state 0
    ∷ gives (baum_welch (model_z (0 ∷ []))) (refuse ZeroMass 0 0)
    -- R1 to R3: at each sample of P1 another path is the strongest rival, at the last one after a tie of predecessors. R4: there is no
    -- sample 3
    ∷ rivalled (model_p (0 ∷ 1 ∷ 1 ∷ [])) 0 0 (minus 7) (0 ∷ 1 ∷ 1 ∷ []) (minus 9) (1 ∷ 1 ∷ 1 ∷ [])
    ∷ rivalled (model_p (0 ∷ 1 ∷ 1 ∷ [])) 1 1 (minus 7) (0 ∷ 1 ∷ 1 ∷ []) (minus 9) (0 ∷ 0 ∷ 1 ∷ [])
    ∷ rivalled (model_p (0 ∷ 1 ∷ 1 ∷ [])) 2 1 (minus 7) (0 ∷ 1 ∷ 1 ∷ []) (minus 10) (0 ∷ 1 ∷ 0 ∷ [])
    ∷ unrivalled (model_p (0 ∷ 1 ∷ 1 ∷ [])) 3 (refuse BadIndex 0 0)
    -- R5: one state alone has no rival. R6: of equal rivals the one of the highest states is given
    ∷ unrivalled (one_state (0 ∷ [])) 0 (refuse NoRival 0 0)
    ∷ rivalled (model_z (0 ∷ 0 ∷ [])) 0 1 nought (1 ∷ 1 ∷ []) nought (0 ∷ 1 ∷ [])
    -- A1: forward may be equal to Viterbi. A2: backward, which adds from the other end, may be below it, here by 2^-51
    ∷ decodes (model_a (0 ∷ 0 ∷ [])) (minus 1) (0 ∷ 0 ∷ [])
    ∷ gives (forward (model_a (0 ∷ 0 ∷ []))) (done (minus 1))
    ∷ gives (backward (model_a (0 ∷ 0 ∷ []))) (done (fin true (suc (2 ^ 51)) (negsuc 50)))
    -- K1 is exp at both ends of its domain, K2 ln at 1 and on both sides of it
    ∷ gives (exp nought) (done one)
    ∷ gives (exp minus_infinity) (done nought)
    ∷ gives (ln one) (done nought)
    ∷ gives (ln two) (done ln2)
    ∷ gives (ln half) (done (neg ln2))
    -- S1: plus infinity is the greatest. S2: equal numbers leave nothing
    ∷ gives (ln_sum_exp (plus_infinity ∷ minus 1 ∷ [])) (done plus_infinity)
    ∷ gives (ln_sub_exp (minus 1) (minus 1)) (done minus_infinity)
    -- F1 writes the file of model P, F2 reads it
    ∷ writes (model_p []).tables file_p
    ∷ reads file_p (model_p []).tables
    -- F3: one bit is flipped, the lowest of the last byte of the emission body. F4: the last byte is missing
    ∷ rejects (flipped 119 0 file_p) (refuse BadSum 1 0)
    ∷ rejects (take 135 file_p) (refuse BadLayout 0 135)
    -- F5: with an end state the file has the end table too
    ∷ writes (ending_p (nought ∷ minus 4 ∷ []) []).tables file_e
    ∷ reads file_e (ending_p (nought ∷ minus 4 ∷ []) []).tables
    ∷ []

-- the definitions give an example: its answer, to the bit, and what it leaves
pub record Holds (e : Example) : Type 0 where
  pub answer_is : answer e.call ≡ e.answers
  pub left_is : left e.call ≡ e.leaves

abbrev pub AllHold : List Example → Type 0
AllHold [] = Unit
AllHold (e ∷ es) = Holds e × AllHold es

abbrev pub GatePostsHold : Type 0
GatePostsHold = AllHold gate_posts
