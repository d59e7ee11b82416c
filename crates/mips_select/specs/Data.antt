-- The bytes of a program's globals, one global after another. A word has its highest byte first. Each global begins at a
-- multiple of 4, and the bytes between two are 0.
use Rattle.std.specs.Prelude.{ℕ, ◌+◌, ◌-◌, ◌*◌, ◌%◌, List, [], ◌∷◌, ◌++◌, length, take, drop, replicate, slice_index}
use Rattle.words.specs.declared.width.Width.{Width}
use Rattle.words.specs.declared.width.Width.TheVariants.{Word, Byte}
use Rattle.mips_isa.specs.States.{byte_of}
use Rattle.rtl.specs.declared.block.RGlobal.{RGlobal}
use Rattle.rtl.specs.Programs.{word_count}
use Rattle.rtl.specs.Meaning.{first_values}

abbrev pub element_bytes : Width → ℕ → List ℕ
element_bytes Word v = byte_of v 0 ∷ byte_of v 1 ∷ byte_of v 2 ∷ byte_of v 3 ∷ []
element_bytes Byte v = v ∷ []

abbrev pub elements_bytes : Width → List ℕ → List ℕ
elements_bytes width [] = []
elements_bytes width (v ∷ vs) = element_bytes width v ++ elements_bytes width vs

-- how many bytes stand after so many elements, up to a whole word
abbrev pub gap_behind : Width → ℕ → ℕ
gap_behind Word n = 0
gap_behind Byte n = (4 - n % 4) % 4

abbrev pub zeros : ℕ → List ℕ
zeros n = replicate n 0

abbrev pub global_bytes : RGlobal → List ℕ
global_bytes a = elements_bytes a.width (first_values a) ++ zeros (gap_behind a.width a.length)

-- globals with their gaps, and without
abbrev pub padded_bytes : List RGlobal → List ℕ
padded_bytes [] = []
padded_bytes (a ∷ globals) = global_bytes a ++ padded_bytes globals

abbrev pub bare_bytes : List RGlobal → List ℕ
bare_bytes [] = []
bare_bytes (a ∷ globals) = elements_bytes a.width (first_values a) ++ bare_bytes globals

-- the data of a program: no gap stands after the last global
abbrev pub data_bytes : List RGlobal → List ℕ
data_bytes globals = padded_bytes (take (length globals - 1) globals) ++ bare_bytes (drop (length globals - 1) globals)

-- where globals begin among the bytes, the first one at n
abbrev pub starts_from : ℕ → List RGlobal → List ℕ
starts_from n [] = []
starts_from n (a ∷ globals) = n ∷ starts_from (n + 4 * word_count a) globals

abbrev pub start_of : List RGlobal → ℕ → ℕ
start_of globals a = slice_index (starts_from 0 globals) a
