-- A choice by the sign of a type of C.
use Rattle.words.specs.declared.sign.Sign.{Sign}
use Rattle.words.specs.declared.sign.Sign.TheVariants.{Signed, Unsigned}

abbrev pub by_sign : {A : Type 0} → Sign → A → A → A
by_sign Signed a b = a
by_sign Unsigned a b = b
