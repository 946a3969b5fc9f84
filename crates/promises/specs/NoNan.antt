-- That no NaN comes out of any call, and no plus infinity of a call on a model. So where a promise says that two results are equal, their
-- bits are.
use Rattle.std.specs.Prelude.{ℕ, ◌*◌, ◌≡◌, true, List, [], ◌∷◌, length, take, Float}
use Rattle.std.proofs.Math.Dec as Dec
use Rattle.floats.specs.Float.{is_number, capped}
use Rattle.answer.specs.Answer.{is_done}
use Rattle.answer.specs.declared.Answer.{Answer}
use Rattle.kernels.specs.Calls.{exp_answer, ln_answer, ln1m_answer}
use Rattle.probs.specs.Calls.{checked_answer, cap_answer, ln_sum_exp_answer, ln_add_exp_answer, ln_sub_exp_answer}
use Rattle.probs.specs.Calls.{Cumulated, scaled_answer, log_to_phred, phred_to_log}
use Rattle.little_endian.specs.Bytes.{Below}
use Rattle.model.specs.Lent.{Tables, Lent, S, M, T}
use Rattle.model.specs.Accepted.{Every}
use Rattle.viterbi.specs.Call as Viterbi
use Rattle.viterbi.specs.Call.{Decoded}
use Rattle.rival.specs.declared.Rivalry.{Rivalry}
use Rattle.rival.specs.Call as Rival
use Rattle.rival.specs.Call.{Asked, Told}
use Rattle.likelihood.specs.Call.{Forward, Backward}
use Rattle.baum_welch.specs.Call as BaumWelch
use Rattle.baum_welch.specs.Call.{Trained}
use Rattle.model_file.specs.declared.Reading.{Reading}
use Rattle.model_file.specs.Call as File
use Rattle.model_file.specs.Call.{Read, Written}
use Rattle.file_promises.specs.ModelFile.{model_read}

-- every entry of every list is neither NaN nor plus infinity
abbrev pub AllCapped : List (List Float) → Type 0
AllCapped [] = Unit
AllCapped (xs ∷ rest) = Every capped xs × AllCapped rest

-- what comes out of a call that answers r and, where it is done, has written these places
pub record Clean (r : Answer) (places : List (List Float)) : Type 0 where
  pub value : Dec.T (capped r.value)
  pub written : is_done r ≡ true → AllCapped places

-- of the five calls on a model, whatever they are lent
pub record NoNan : Type 0 where
  pub of_viterbi : (l : Lent) (o e : Viterbi.Outputs) (r : Answer) → Decoded l o r e → Clean r (take (T l * S l) e.values ∷ [])
  pub of_rival : (q : Asked) (o e : Rival.Outputs) (r : Rivalry) → Told q o r e
      → Clean r.answer (take (T q.lent * S q.lent) e.values ∷ []) × Dec.T (capped r.best)
  pub of_forward : (l : Lent) (o e : List Float) (r : Answer) → Forward l o r e → Clean r (take (T l * S l) e ∷ [])
  pub of_backward : (l : Lent) (o e : List Float) (r : Answer) → Backward l o r e → Clean r (take (T l * S l) e ∷ [])
  pub of_baum_welch : (l : Lent) (o e : BaumWelch.Outputs) (r : Answer) → Trained l o r e
      → Clean r
      (take (S l * S l) e.transition
      ∷ take (S l * M l) e.emission
      ∷ take (S l) e.initial
      ∷ take (S l) e.end
      ∷ take (T l * S l) e.alpha
      ∷ take (T l * S l) e.beta
      ∷ [])

-- of the two on a model file, whatever they are lent: bytes are below 256
pub record NoNanFromFiles : Type 0 where
  pub of_read_model : (file : List ℕ) (o e : File.Outputs) (r : Reading) → Below 256 file → Read file o r e
      → let m = model_read r e in Clean r.answer (m.transition ∷ m.emission ∷ m.initial ∷ m.end ∷ [])
  pub of_write_model : (m : Tables) (o e : List ℕ) (r : Answer) → Written m o r e → Clean r []

-- the answer's value is a number
abbrev pub Numeric : Answer → Type 0
Numeric r = Dec.T (is_number r.value)

-- no NaN comes out of the leaves and kernels, whatever they are given. Plus infinity may: ln answers it for plus infinity.
pub record NoNanFromLeaves : Type 0 where
  pub of_exp : (d : Float) → Numeric (exp_answer d)
  pub of_ln : (x : Float) → Numeric (ln_answer x)
  pub of_ln1m_exp : (p : Float) → Numeric (ln1m_answer p)
  pub of_ln_sum_exp : (probs : List Float) → Numeric (ln_sum_exp_answer probs)
  pub of_ln_add_exp : (x y : Float) → Numeric (ln_add_exp_answer x y)
  pub of_ln_sub_exp : (p0 p1 : Float) → Numeric (ln_sub_exp_answer p0 p1)
  pub of_ln_cumsum_exp : (probs sums sums' : List Float) (r : Answer) → Cumulated probs sums sums' r
      → Numeric r × (is_done r ≡ true → Every is_number (take (length probs) sums'))
  pub of_checked : (p : Float) → Numeric (checked_answer p)
  pub of_cap : (x epsilon : Float) → Numeric (cap_answer x epsilon)
  pub of_log_to_phred : (x : Float) → Numeric (scaled_answer log_to_phred x)
  pub of_phred_to_log : (x : Float) → Numeric (scaled_answer phred_to_log x)
