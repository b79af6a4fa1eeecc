-- What is printed of a layer, a place and a refusal, byte for byte.
use Rattle.std.specs.Prelude.{ℕ, List, ◌++◌, Option, Some, None, codes, decimal}
use Rattle.fault.specs.declared.place.Layer.{Layer}
use Rattle.fault.specs.declared.place.Layer.TheVariants.{Raster, Block, Picture}
use Rattle.fault.specs.declared.place.Place.{Place}
use Rattle.fault.specs.declared.place.Place.TheVariants.{Word, Slot}
use Rattle.fault.specs.declared.Fault.{Fault}
use Rattle.fault.specs.declared.Fault.TheVariants.{Size, Outside, Format, FirstReference, Length, SlotNumber, SlabExtent, NotInFormat, ComponentWidth, Sync, BlockCheck, ReservedBit, ReferenceRange, RecordRule, FrameOrField, UnexpectedReference, EmptySlot, DisputedSlot, ImageCheck, MpegStandard, PictureStructure, ChromaFormat, SpareBit}
use Rattle.fault.specs.Table.{number_of, layer_of, place_of}

abbrev pub layer_text : Layer → List ℕ
layer_text Raster = codes "raster"
layer_text Block = codes "block"
layer_text Picture = codes "picture"

abbrev pub place_text : Place → List ℕ
place_text (Word row word) = codes "row " ++ (decimal row ++ (codes ", word " ++ decimal word))
place_text (Slot slot) = codes "slot " ++ decimal slot

-- what is wrong; of a refusal that names a place, what is wrong with that place
abbrev pub reason_of : Fault → List ℕ
reason_of Size = codes "the size is not allowed or the memory has another length"
reason_of (Outside row word) = codes "lies outside the raster"
reason_of Format = codes "the format is not 1 to 4"
reason_of FirstReference = codes "the first reference exceeds 65520"
reason_of Length = codes "the data, the element table or the sheet has the wrong length"
reason_of SlotNumber = codes "the slot number is outside its table"
reason_of SlabExtent = codes "the slab's extent is not that of the format"
reason_of NotInFormat = codes "the stripe or the column is not in the format"
reason_of ComponentWidth = codes "a component of the record does not fit its width"
reason_of Sync = codes "the sync code is not 11111"
reason_of BlockCheck = codes "the block's check does not fit"
reason_of ReservedBit = codes "a reserved bit is 1"
reason_of ReferenceRange = codes "the reference exceeds 65520"
reason_of RecordRule = codes "the record breaks a rule on mb_intra or skipped_mb"
reason_of FrameOrField = codes "frame or field differs from the format"
reason_of UnexpectedReference = codes "the reference is not the one expected"
reason_of (EmptySlot slot) = codes "is empty"
reason_of (DisputedSlot slot) = codes "is disputed"
reason_of ImageCheck = codes "the image's check does not fit"
reason_of MpegStandard = codes "the MPEG standard flag is 1"
reason_of PictureStructure = codes "picture_structure is 0"
reason_of ChromaFormat = codes "chroma_format is 0 or 3"
reason_of SpareBit = codes "a spare bit is 1"

-- what is wrong, after the place that it is wrong with, if there is one
abbrev located : Option Place → List ℕ → List ℕ
located None reason = reason
located (Some place) reason = place_text place ++ (codes " " ++ reason)

-- number, layer, then where and what: "20 picture: slot 7 is empty"
abbrev pub fault_text : Fault → List ℕ
fault_text f = decimal (number_of f) ++ (codes " " ++ (layer_text (layer_of f) ++ (codes ": " ++ located (place_of f) (reason_of f))))
