-- Images, the bytes of each, and why bytes are those of none.
use Rattle.std.specs.Prelude.{◌≡◌, ℕ, zero, suc, ◌+◌, ◌-◌, ◌*◌, ◌/◌, ◌%◌, ◌^◌, ◌<◌, ◌≤◌, Bool, true, not, ◌&&◌, nat_lt, nat_le, ◌==◌, List}
use Rattle.std.specs.Prelude.{[], ◌∷◌, ◌++◌, length, drop, slice_index, All, Option, Some, None, if◌then◌else◌}
use Rattle.std.specs.Int.{w32, to_be_bytes}
pub use Rattle.mips_isa.specs.MemoryMap.{code_base}
use Rattle.image.specs.declared.limits.TheConstants.{CODE_WORDS, COUNTED_BLOCKS, DATA_BYTES}
use Rattle.image.specs.declared.fault.ImageFault.{ImageFault}
use Rattle.image.specs.declared.fault.ImageFault.TheVariants.{Magic, Version as OtherVersion, Length, Entry, Counts, NoMemory}

-- version 2 has the counts of a build's report
pub record CountsOf : Type 0 where
  pub same : ℕ
  pub unclean : ℕ
  pub differs : ℕ
  pub full : ℕ
  pub no_memory : ℕ
  pub missed : ℕ

pub data Version : Type 0 where
  First : Version
  Second : CountsOf → Version

-- data are bytes
pub record ImageParts : Type 0 where
  pub version : Version
  pub entry : ℕ
  pub code : List ℕ
  pub bytes : List ℕ

-- the address of one of so many code words
abbrev pub is_entry : ℕ → ℕ → Bool
is_entry n a = nat_le code_base a && ((a % 4 == 0) && nat_lt ((a - code_base) / 4) n)

abbrev pub total : CountsOf → ℕ
total c = c.same + c.unclean + c.differs + c.full + c.no_memory + c.missed

-- what each version asks: whole words of data, or counts of so many blocks at most
abbrev pub FitsVersion : Version → List ℕ → Type 0
FitsVersion First bytes = length bytes % 4 ≡ 0
FitsVersion (Second c) bytes = total c ≤ COUNTED_BLOCKS

pub record IsImage (i : ImageParts) : Type 0 where
  pub some : 1 ≤ length i.code
  pub code_fits : length i.code ≤ CODE_WORDS
  pub bytes_fit : length i.bytes ≤ DATA_BYTES
  pub entry : is_entry (length i.code) i.entry ≡ true
  pub version : FitsVersion i.version i.bytes
  pub code : All (λ w. w < 2 ^ 32) i.code
  pub bytes : All (λ b. b < 2 ^ 8) i.bytes

-- ---- the bytes of an image

-- each word with its highest byte first
abbrev pub words_bytes : List ℕ → List ℕ
words_bytes [] = []
words_bytes (w ∷ ws) = to_be_bytes w32 w ++ words_bytes ws

-- the four bytes `MCCI`, as a word
abbrev pub magic : ℕ
magic = 1296253769

abbrev pub head_of : Version → (code entry bytes : ℕ) → List ℕ
head_of First n e d = magic ∷ 1 ∷ n ∷ e ∷ d / 4 ∷ []
head_of (Second c) n e d = magic ∷ 2 ∷ n ∷ e ∷ d ∷ c.same ∷ c.unclean ∷ c.differs ∷ c.full ∷ c.no_memory ∷ c.missed ∷ []

abbrev pub image_bytes : ImageParts → List ℕ
image_bytes i = words_bytes (head_of i.version (length i.code) i.entry (length i.bytes)) ++ (words_bytes i.code ++ i.bytes)

-- ---- what bytes say

-- the word that begins at a byte
abbrev pub word_at_byte : List ℕ → ℕ → ℕ
word_at_byte bytes at =
    slice_index bytes at * 2 ^ 24 + slice_index bytes (at + 1) * 2 ^ 16 + slice_index bytes (at + 2) * 2 ^ 8 + slice_index bytes (at + 3)

-- so many words, the first one at the first byte
abbrev pub words_of : ℕ → List ℕ → List ℕ
words_of zero bytes = []
words_of (suc n) bytes = word_at_byte bytes 0 ∷ words_of n (drop 4 bytes)

abbrev pub counts_at : List ℕ → CountsOf
counts_at bytes = record {
  same = word_at_byte bytes 20;
  unclean = word_at_byte bytes 24;
  differs = word_at_byte bytes 28;
  full = word_at_byte bytes 32;
  no_memory = word_at_byte bytes 36;
  missed = word_at_byte bytes 40;
}

-- after a head of so many bytes stand the code words and the data
abbrev pub parts_behind : Version → ℕ → List ℕ → ImageParts
parts_behind v head bytes = record {
  version = v;
  entry = word_at_byte bytes 12;
  code = words_of (word_at_byte bytes 8) (drop head bytes);
  bytes = drop (4 * word_at_byte bytes 8) (drop head bytes);
}

-- the image that the bytes say, if they are those of one
abbrev pub parts_of : List ℕ → ImageParts
parts_of bytes = if word_at_byte bytes 4 == 1 then parts_behind First 20 bytes else parts_behind (Second (counts_at bytes)) 44 bytes

abbrev pub has_sizes : (head most : ℕ) → (data_bytes : ℕ) → List ℕ → Bool
has_sizes head most data_bytes bytes =
    nat_le 1 (word_at_byte bytes 8) && (nat_le (word_at_byte bytes 8) CODE_WORDS && (nat_le (word_at_byte bytes 16) most
    && (length bytes == head + 4 * word_at_byte bytes 8 + data_bytes)))

-- the tests of version 1, after its number
abbrev pub first_version_fault : List ℕ → Option ImageFault
first_version_fault bytes =
    if not (has_sizes 20 (DATA_BYTES / 4) (4 * word_at_byte bytes 16) bytes) then Some Length
    else (if not (is_entry (word_at_byte bytes 8) (word_at_byte bytes 12)) then Some Entry else None)

-- those of version 2
abbrev pub second_version_fault : List ℕ → Option ImageFault
second_version_fault bytes =
    if nat_lt (length bytes) 44 then Some Length
    else (if not (has_sizes 44 DATA_BYTES (word_at_byte bytes 16) bytes) then Some Length
    else (if not (is_entry (word_at_byte bytes 8) (word_at_byte bytes 12)) then Some Entry
    else (if not (nat_le (total (counts_at bytes)) COUNTED_BLOCKS) then Some Counts else None)))

-- the first test that fails
abbrev pub image_fault : List ℕ → Option ImageFault
image_fault bytes =
    if nat_lt (length bytes) 20 then Some Length
    else (if not (word_at_byte bytes 0 == magic) then Some Magic
    else (if word_at_byte bytes 4 == 1 then first_version_fault bytes
    else (if word_at_byte bytes 4 == 2 then second_version_fault bytes
    else Some OtherVersion)))

-- bytes are refused for their first fault, or those of an image for lack of memory
abbrev pub IsImageFault : List ℕ → ImageFault → Type 0
IsImageFault bytes NoMemory = image_fault bytes ≡ None
IsImageFault bytes f = image_fault bytes ≡ Some f

abbrev pub EachImageHasItsBytes : Type 0
EachImageHasItsBytes = (i j : ImageParts) → IsImage i → IsImage j → image_bytes i ≡ image_bytes j → i ≡ j
