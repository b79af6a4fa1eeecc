-- What no call changes: the format, and the lengths of tables and sheets. And runs one after another.
use Rattle.std.proofs.Common.{◌≡◌, ℕ, List, [], ◌∷◌, ◌++◌, length, Some, None, Option, Result, sym, refl, ap, ◌∙◌}
use Rattle.std.proofs.lemmas.List.{length-set, length-replicate}
use Rattle.fault.specs.declared.Fault.{Fault}
use Rattle.record.specs.declared.record.Record.{Record}
use Rattle.slots.specs.declared.slot.Slot.TheVariants.{Empty}
use Rattle.slots.specs.Slots.{cleared}
use Rattle.format.specs.Formats.{index_of}
use Rattle.image.specs.Image.{sealing}
use Rattle.extractor.specs.Gather.{settled, starting, elements_after, sheet_after}
use Rattle.extractor.specs.Delivery.{delivering}
use Rattle.damage.specs.Chain.{Picture, Chain, put, with_image}
use Rattle.damage.specs.Calls.{Call, seal, opens, place, close, start, gather, deliver, paint, after, open_after, close_after, place_after, start_after, gather_after, gathered_on}
use Rattle.damage.specs.Runs.{run}
use Rattle.damage.proofs.Pieces.{put_pick, settled_case}

pub record Steady (one two : Chain) : Type 0 where
  pub format : two.format ≡ one.format
  pub sheets : (s : ℕ) → length (two.sheet s) ≡ length (one.sheet s)
  pub tables : (t : ℕ) → length (two.table t) ≡ length (one.table t)

steady_refl : (ch : Chain) → Steady ch ch
steady_refl ch = record { format = refl; sheets = λ s. refl; tables = λ t. refl }

place_steady : (ch : Chain) (p : Option Picture) (s c : ℕ) (image : List ℕ) (r : Record) → Steady ch (place_after p ch s c image r)
place_steady ch None s c image r = steady_refl ch
place_steady ch (Some p) s c image r = record { format = refl; sheets = λ s. refl; tables = λ t. refl }

open_steady : (ch : Chain) (p : Option Picture) → Steady ch (open_after p ch)
open_steady ch None = record { format = refl; sheets = λ s. refl; tables = λ t. refl }
open_steady ch (Some p) = steady_refl ch

close_steady : (ch : Chain) (p : Option Picture) → Steady ch (close_after p ch)
close_steady ch None = steady_refl ch
close_steady ch (Some p) = record { format = refl; sheets = λ s. refl; tables = λ t. refl }

image_steady : (ch : Chain) (i : ℕ) (r : Result (List ℕ) Fault) → Steady ch (settled r ch (with_image ch i))
image_steady ch i r = settled_case (Steady ch) r ch (with_image ch i) (steady_refl ch) (λ _ _. record { format = refl; sheets = λ s. refl; tables = λ t. refl })

-- a list put in the place of another of its length
put_long : {A : Type 0} (f : ℕ → List A) (k : ℕ) (a : List A) → length a ≡ length (f k) → (j : ℕ) → length (put f k a j) ≡ length (f j)
put_long f k a e j = put_pick f k a j (λ x. length x ≡ length (f j)) (λ i. e ∙ ap (λ n. length (f n)) (sym i)) (λ _. refl)

pub steady : (ch : Chain) (call : Call) → Steady ch (after ch call)
steady ch (seal bytes i) = image_steady ch i (sealing bytes)
steady ch opens = open_steady ch ch.picture
steady ch (place s c image r) = place_steady ch ch.picture s c image.bytes r
steady ch close = close_steady ch ch.picture
steady ch (start t number first) =
    settled_case (Steady ch) (starting number first (length (ch.table t))) ch (λ _. start_after ch t) (steady_refl ch) (λ _ _. record
    { format = refl; sheets = λ s. refl; tables = put_long ch.table t (cleared (ch.table t)) (length-replicate (length (ch.table t)) Empty) })
steady ch (gather g t s c) =
    settled_case (Steady ch) (gathered_on ch g t s c) ch (gather_after ch t s c) (steady_refl ch) (λ b _. record {
      format = refl;
      sheets = put_long ch.sheet s (sheet_after c (ch.sheet s) b) (length-set (ch.sheet s) c _);
      tables = put_long ch.table t (elements_after s c (ch.table t) b) (length-set (ch.table t) (index_of s c) _);
    })
steady ch (deliver t i) = image_steady ch i (delivering (ch.table t))
steady ch (paint s c left) = record { format = refl; sheets = λ s. refl; tables = λ t. refl }

pub steady_run : (ch : Chain) (calls : List Call) → Steady ch (run ch calls)
steady_run ch [] = steady_refl ch
steady_run ch (call ∷ calls) =
    let a = steady ch call in
    let b = steady_run (after ch call) calls in
    record { format = b.format ∙ a.format; sheets = λ s. b.sheets s ∙ a.sheets s; tables = λ t. b.tables t ∙ a.tables t }

-- one run after another
pub run-++ : (ch : Chain) (xs ys : List Call) → run ch (xs ++ ys) ≡ run (run ch xs) ys
run-++ ch [] ys = refl
run-++ ch (x ∷ xs) ys = run-++ (after ch x) xs ys
