-- What the three public calls answer (RULES 4): the kernel's value in its domain, and elsewhere refusal 7 at table 0 and place 0.
use Rattle.std.specs.Prelude.{Bool, cond, Float}
use Rattle.std.specs.Float.Ieee.{le}
use Rattle.floats.specs.Float.{nought}
use Rattle.answer.specs.declared.Answer.{Answer}
use Rattle.answer.specs.declared.Refusal.TheVariants.{NotGood}
use Rattle.answer.specs.Answer.{done, refuse}
use Rattle.kernels.specs.Exp.{exp_of}
use Rattle.kernels.specs.Ln.{ln_of}
use Rattle.kernels.specs.Ln1m.{ln1m_of}

abbrev pub kernel_answer : Bool → Float → Answer
kernel_answer in_domain v = cond in_domain (done v) (refuse NotGood 0 0)

-- RULES 4.1: d is at most 0
abbrev pub exp_answer : Float → Answer
exp_answer d = kernel_answer (le d nought) (exp_of d)

-- RULES 4.2: x is at least 0
abbrev pub ln_answer : Float → Answer
ln_answer x = kernel_answer (le nought x) (ln_of x)

-- RULES 4.3: p is at most 0
abbrev pub ln1m_answer : Float → Answer
ln1m_answer p = kernel_answer (le p nought) (ln1m_of p)
