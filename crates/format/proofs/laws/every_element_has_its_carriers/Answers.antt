use Rattle.format.proofs.Carried.{each_carried, some_no_more, left_of_sets}
use Rattle.format.proofs.Lists.{left_of_lists}
use Rattle.format.proofs.Whole.{samples}
use Rattle.format.proofs.laws.every_element_has_its_carriers.Goals as goal

pub returns : goal.returns
returns c = record { carried = each_carried; least = some_no_more; sets = left_of_sets; lists = left_of_lists; samples = samples }
