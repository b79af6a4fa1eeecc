use Rattle.std.proofs.Common.{ℕ, List, get_or, ap, ◌∙◌, rules}
use Rattle.crc.proofs.Bytes.{feedback_at}
use Rattle.crc.proofs.table.feedback.Goals as goal

pub returns : goal.returns
returns c = ap (λ (l : List ℕ). get_or l c.args.top 0) c.feedback_table.ensures ∙ feedback_at c.args.top (search rules)
