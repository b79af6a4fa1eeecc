-- The table of a picture's image (SMPTE 351M, table 4). An image is 4320 bits, and bit 0 is the most significant of its first byte.
use Rattle.std.specs.Prelude.{◌≡◌, ℕ, ◌+◌, ◌<◌, List, [], ◌∷◌, length, slice_index_or, Option, Some, None}
use Rattle.image.specs.declared.table.Category.{Category}
use Rattle.image.specs.declared.table.Category.TheVariants.{Stream, Repeated, Derived}
use Rattle.image.specs.declared.table.Parameter.{Parameter}
use Rattle.image.specs.declared.table.Name.{Name}
use Rattle.image.specs.declared.table.Name.TheVariants.{MpegStandardFlag, ChromaFormat, PictureStructure, TopFieldFirst, QScaleType, RepeatFirstField, Spare, Check}

-- A parameter is its first bit, its width, and its category: what is taken from the stream where the picture has it, what is repeated from
-- earlier pictures, and what is derived for each picture. The spare bits and the check have none.
abbrev row : ℕ → ℕ → Option Category → Parameter
row n w c = record { first_bit = n; width = w; category = c }

abbrev stream : Option Category
stream = Some Stream

abbrev repeated : Option Category
repeated = Some Repeated

abbrev derived : Option Category
derived = Some Derived

-- the standard numbers the categories 1, 2 and 3; 0 is none of them
abbrev pub category_number : Option Category → ℕ
category_number None = 0
category_number (Some Stream) = 1
category_number (Some Repeated) = 2
category_number (Some Derived) = 3

abbrev pub table : List Parameter
table =
    row 0 1 derived  -- MPEG standard flag
    ∷ row 1 1 derived  -- red_bw_flag
    ∷ row 2 3 derived  -- red_bw_indicator
    ∷ row 5 2 derived  -- header present flags: sequence header, GOP header
    ∷ row 7 16 derived  -- extension start code flags
    ∷ row 23 3 derived  -- other start codes: user_data_start_code, sequence_error_code, sequence_end_code
    -- sequence header
    ∷ row 26 14 repeated  -- horizontal_size
    ∷ row 40 14 repeated  -- vertical_size
    ∷ row 54 4 repeated  -- aspect_ratio_information
    ∷ row 58 4 repeated  -- frame_rate_code
    ∷ row 62 30 repeated  -- bit_rate
    ∷ row 92 18 repeated  -- vbv_buffer_size
    ∷ row 110 1 repeated  -- constrained_parameters_flag
    -- sequence extension
    ∷ row 111 8 repeated  -- profile_and_level_indication
    ∷ row 119 1 repeated  -- progressive_sequence
    ∷ row 120 2 repeated  -- chroma_format
    ∷ row 122 1 repeated  -- low_delay
    -- sequence display extension
    ∷ row 123 3 repeated  -- video_format
    ∷ row 126 1 repeated  -- color_description
    ∷ row 127 8 repeated  -- color_primaries
    ∷ row 135 8 repeated  -- transfer_characteristics
    ∷ row 143 8 repeated  -- matrix_coefficients
    ∷ row 151 14 repeated  -- display_horizontal_size
    ∷ row 165 14 repeated  -- display_vertical_size
    -- group of pictures header
    ∷ row 179 25 repeated  -- time_code
    ∷ row 204 1 repeated  -- closed_gop
    ∷ row 205 1 repeated  -- broken_link
    -- picture header
    ∷ row 206 10 stream  -- temporal_reference
    ∷ row 216 3 stream  -- picture_coding_type
    ∷ row 219 16 stream  -- vbv_delay
    ∷ row 235 1 stream  -- full_pel_forward_vector
    ∷ row 236 3 stream  -- forward_f_code
    ∷ row 239 1 stream  -- full_pel_backward_vector
    ∷ row 240 3 stream  -- backward_f_code
    -- picture coding extension
    ∷ row 243 4 stream  -- forward_horizontal_f_code
    ∷ row 247 4 stream  -- forward_vertical_f_code
    ∷ row 251 4 stream  -- backward_horizontal_f_code
    ∷ row 255 4 stream  -- backward_vertical_f_code
    ∷ row 259 2 stream  -- intra_dc_precision
    ∷ row 261 2 stream  -- picture_structure
    ∷ row 263 1 stream  -- top_field_first
    ∷ row 264 1 stream  -- frame_pred_frame_dct
    ∷ row 265 1 stream  -- concealment_motion_vectors
    ∷ row 266 1 stream  -- q_scale_type
    ∷ row 267 1 stream  -- intra_vlc_format
    ∷ row 268 1 stream  -- alternate_scan
    ∷ row 269 1 stream  -- repeat_first_field
    ∷ row 270 1 stream  -- chroma_420_type
    ∷ row 271 1 stream  -- progressive_frame
    ∷ row 272 1 stream  -- composite_display_flag
    ∷ row 273 1 stream  -- v_axis
    ∷ row 274 3 stream  -- field_sequence
    ∷ row 277 1 stream  -- sub_carrier
    ∷ row 278 7 stream  -- burst_amplitude
    ∷ row 285 8 stream  -- sub_carrier_phase
    -- quant matrix extension
    ∷ row 293 1 stream  -- load_intra_quantizer_matrix
    ∷ row 294 1 stream  -- load_non_intra_quantizer_matrix
    ∷ row 295 1 stream  -- load_chroma_intra_quantizer_matrix
    ∷ row 296 1 stream  -- load_chroma_non_intra_quantizer_matrix
    ∷ row 297 512 repeated  -- intra_quantizer_matrix
    ∷ row 809 512 repeated  -- non_intra_quantizer_matrix
    ∷ row 1321 512 repeated  -- chroma_intra_quantizer_matrix
    ∷ row 1833 512 repeated  -- chroma_non_intra_quantizer_matrix
    -- picture display extension
    ∷ row 2345 16 repeated  -- frame_center_horizontal_offset_1
    ∷ row 2361 16 repeated  -- frame_center_vertical_offset_1
    ∷ row 2377 16 repeated  -- frame_center_horizontal_offset_2
    ∷ row 2393 16 repeated  -- frame_center_vertical_offset_2
    ∷ row 2409 16 repeated  -- frame_center_horizontal_offset_3
    ∷ row 2425 16 repeated  -- frame_center_vertical_offset_3
    -- copyright extension
    ∷ row 2441 1 repeated  -- copyright_flag
    ∷ row 2442 8 repeated  -- copyright_identifier
    ∷ row 2450 1 repeated  -- original_or_copy
    ∷ row 2451 64 repeated  -- copyright_number
    -- time stamps
    ∷ row 2515 2 stream  -- PTS_DTS_flag
    ∷ row 2517 33 repeated  -- PTS
    ∷ row 2550 33 repeated  -- DTS
    -- the rest
    ∷ row 2583 41 None  -- spare
    ∷ row 2624 1664 repeated  -- user data
    ∷ row 4288 32 None  -- check
    ∷ []

-- row i of a table
abbrev pub row_at : List Parameter → ℕ → Parameter
row_at rows i = slice_index_or rows i (row 0 0 None)

-- The 79 rows run from bit 0 to bit 4319: each begins where the one before it ends, so that no bit is left out and none has two rows.
pub record Gapless (rows : List Parameter) : Type 0 where
  pub count : length rows ≡ 79
  pub begins : (row_at rows 0).first_bit ≡ 0
  pub follows : (i : ℕ) → i < 78 → (row_at rows (i + 1)).first_bit ≡ (row_at rows i).first_bit + (row_at rows i).width
  pub ends : (row_at rows 78).first_bit + (row_at rows 78).width ≡ 4320

-- the row that has a name
abbrev pub row_of : Name → ℕ
row_of MpegStandardFlag = 0
row_of ChromaFormat = 15
row_of PictureStructure = 39
row_of TopFieldFirst = 40
row_of QScaleType = 43
row_of RepeatFirstField = 46
row_of Spare = 76
row_of Check = 78

unfoldable pub parameter_of : Name → Parameter
parameter_of name = row_at table (row_of name)
