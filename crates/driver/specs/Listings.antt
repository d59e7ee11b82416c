-- The listing of an image's bytes.
use Rattle.std.specs.Prelude.{◌≡◌, ℕ, List}
use Rattle.image.specs.Images.{ImageParts, IsImage, image_bytes}
use Rattle.mips_asm.specs.Listing.{listing}

-- bytes that are an image's
abbrev pub IsOfImage : List ℕ → Type 0
IsOfImage bytes = (image : ImageParts) × IsImage image × (image_bytes image ≡ bytes)

-- how it is listed
pub record IsListing (bytes text : List ℕ) : Type 0 where
  pub image : ImageParts
  pub fits : IsImage image
  pub written : image_bytes image ≡ bytes
  pub listed : text ≡ listing image
