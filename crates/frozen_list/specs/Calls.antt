-- The names of the calls of the frozen list.
use Rattle.std.specs.Prelude.{ℕ, List, codes}
use Rattle.frozen_list.specs.declared.calls.Call.{Call}
use Rattle.frozen_list.specs.declared.calls.Call.TheVariants as call

-- the name that the library gives a call, as bytes
abbrev pub name_of : Call → List ℕ
name_of call.Viterbi = codes "viterbi"
name_of call.Forward = codes "forward"
name_of call.Backward = codes "backward"
name_of call.BaumWelch = codes "baum_welch"
name_of call.Exp = codes "exp"
name_of call.Ln = codes "ln"
name_of call.LnOneMinusExp = codes "ln_one_minus_exp"
name_of call.LnSumExp = codes "ln_sum_exp"
name_of call.LnAddExp = codes "ln_add_exp"
name_of call.LnSubExp = codes "ln_sub_exp"
name_of call.LnCumsumExp = codes "ln_cumsum_exp"
name_of call.CapNumericalOvershoot = codes "cap_numerical_overshoot"
name_of call.IsValid = codes "is_valid"
name_of call.ProbChecked = codes "Prob::checked"
name_of call.LogProbFromProb = codes "LogProb::from_prob"
name_of call.ProbFromLogProb = codes "Prob::from_log_prob"
name_of call.PhredProbFromLogProb = codes "PHREDProb::from_log_prob"
name_of call.LogProbFromPhredProb = codes "LogProb::from_phred_prob"
name_of call.ReadModel = codes "read_model"
name_of call.WriteModel = codes "write_model"
name_of call.FileLength = codes "file_length"
name_of call.Rival = codes "rival"
