-- What a running program keeps: a word for each local or register that is set, and the words of each global.
use Rattle.std.specs.Prelude.{◌≡◌, ◌<◌, ◌^◌, ℕ, List, Option, Some, None, All, nat_eq, if◌then◌else◌, slice_get, slice_set}

abbrev pub Places : Type 0
Places = ℕ → Option ℕ

-- none is set
abbrev pub unset_places : Places
unset_places x = None

-- one is set to a word, or unset
abbrev pub places_with : Places → ℕ → Option ℕ → Places
places_with p x v = λ y. if nat_eq y x then v else p y

abbrev pub Arrays : Type 0
Arrays = List (List ℕ)

abbrev pub chain : {A B : Type 0} → Option A → (A → Option B) → Option B
chain None f = None
chain (Some a) f = f a

-- the word of a global at an index, or none outside
abbrev pub element_at : Arrays → ℕ → ℕ → Option ℕ
element_at g a i = chain (slice_get g a) (λ words. slice_get words i)

-- the globals after a write, or none outside
abbrev pub arrays_with : Arrays → ℕ → ℕ → ℕ → Option Arrays
arrays_with g a i v = chain (slice_get g a) (λ words. chain (slice_get words i) (λ _. Some (slice_set g a (slice_set words i v))))

-- a number of 32 bits
abbrev pub IsWord : ℕ → Type 0
IsWord w = w < 2 ^ 32

-- each place that is set holds a word
abbrev pub PlacesHoldWords : Places → Type 0
PlacesHoldWords p = (x v : ℕ) → p x ≡ Some v → IsWord v

abbrev pub ArraysHoldWords : Arrays → Type 0
ArraysHoldWords g = All (All IsWord) g
