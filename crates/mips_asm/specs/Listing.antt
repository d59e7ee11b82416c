-- The listing of an image: a line for each code word, for each whole word of data and for each byte after these. The last line has the
-- counts.
use Rattle.std.specs.Prelude.{ℕ, ◌+◌, ◌*◌, ◌/◌, List, [], ◌∷◌, ◌++◌, length, drop, Option, Some, None, codes}
use Rattle.mips_isa.specs.declared.inst.Inst.{Inst}
use Rattle.mips_isa.specs.declared.inst.Inst.TheVariants as insts
use Rattle.mips_isa.specs.Starting.{data_base}
use Rattle.mips_isa.specs.Texts.{instruction_text, control_text}
use Rattle.mips_isa.specs.Digits.{word_text, byte_text}
use Rattle.mips_code.specs.Decoding.{instruction_of}
use Rattle.image.specs.Images.{ImageParts, Version, First, Second, code_base, words_of}
use Rattle.image.specs.Texts.{counts_text}

abbrev pub decoded_text : Option Inst → (address : ℕ) → List ℕ
decoded_text None address = codes ".word"
decoded_text (Some (insts.Plain i)) address = instruction_text i
decoded_text (Some (insts.Control c)) address = control_text c address

abbrev pub code_line : (address word : ℕ) → List ℕ
code_line address word =
    word_text address ++ (codes "  " ++ (word_text word ++ (codes "  " ++ (decoded_text (instruction_of word) address ++ codes "\n"))))

abbrev pub word_line : (address word : ℕ) → List ℕ
word_line address word = word_text address ++ (codes "  " ++ (word_text word ++ codes "  .word\n"))

abbrev pub byte_line : (address byte : ℕ) → List ℕ
byte_line address byte = word_text address ++ (codes "  " ++ (byte_text byte ++ codes "  .byte\n"))

-- a line for each item, where these lie so far apart
abbrev pub lines_at : (ℕ → ℕ → List ℕ) → (step address : ℕ) → List ℕ → List ℕ
lines_at line step address [] = []
lines_at line step address (x ∷ xs) = line address x ++ lines_at line step (address + step) xs

-- the data: its whole words, and the bytes after them
abbrev pub data_lines : List ℕ → List ℕ
data_lines bytes =
    lines_at word_line 4 data_base (words_of (length bytes / 4) bytes)
    ++ lines_at byte_line 1 (data_base + 4 * (length bytes / 4)) (drop (4 * (length bytes / 4)) bytes)

-- version 1 has no counts
abbrev pub report_line : Version → List ℕ
report_line First = []
report_line (Second counts) = codes "report " ++ (counts_text counts ++ codes "\n")

abbrev pub listing : ImageParts → List ℕ
listing i = lines_at code_line 4 code_base i.code ++ (data_lines i.bytes ++ report_line i.version)
