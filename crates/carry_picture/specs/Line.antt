-- The line that is printed of the picture.
use Rattle.std.specs.Prelude.{ℕ, List, ◌++◌, codes, decimal}
use Rattle.carry_picture.specs.declared.line.PictureLine.{PictureLine}

abbrev pub picture_text : PictureLine → List ℕ
picture_text l = codes "gathered " ++ (decimal l.gathered ++ (codes " held " ++ decimal l.held))
