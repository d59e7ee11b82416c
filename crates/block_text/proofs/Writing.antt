-- One text that is written after another.
use Rattle.std.proofs.Common.{◌≡◌, ℕ, ◌+◌, ◌<◌, List, [], ◌++◌, length, get_or, take, Option, Some, None, append_assoc, ◌∙◌, ap, sym}
use Rattle.std.proofs.lemmas.List.{flat_map_more, map-append, take_more}
use Rattle.std.specs.List.{flat_map}
use Rattle.mips_isa.specs.declared.inst.Plain.{Plain}
use Rattle.mips_isa.specs.Texts.{instruction_text}
use Rattle.text.specs.Shown.{shown_in_lines, shown_text}
use Rattle.text.specs.Written.{Writes}
use Rattle.block_text.specs.Spelling.{insts_text}

writes_both : (a b c : Option (List ℕ)) (x y : List ℕ) → Writes a x b → Writes b y c → Writes a (x ++ y) c
writes_both None b c x y first then = rw first at then
writes_both (Some s) None c x y first then = rw then tt
writes_both (Some s) (Some t) None x y first then = tt
writes_both (Some s) (Some t) (Some u) x y first then = then ∙ ap (λ l. l ++ y) first ∙ append_assoc s x y

pub writes_on : (a b c : Option (List ℕ)) (x y : List ℕ) → Writes a (shown_text x) b → Writes b (shown_text y) c → Writes a (shown_text (x ++ y)) c
writes_on a b c x y first then =
    rw (map-append shown_in_lines x y) (writes_both a b c (shown_text x) (shown_text y) first then)

pub insts_more : (margin end : List ℕ) (insts : List Plain) (i : ℕ) (inst : Plain) → i < length insts → inst ≡ get_or insts i inst
    → insts_text margin end (take i insts) ++ (margin ++ (instruction_text inst ++ end)) ≡ insts_text margin end (take (i + 1) insts)
insts_more margin end insts i inst within is =
    let line : Plain → List ℕ = λ p. margin ++ (instruction_text p ++ end) in
    ap (λ p. flat_map line (take i insts) ++ line p) is ∙ flat_map_more line [] (take i insts) (get_or insts i inst)
    ∙ ap (flat_map line) (sym (take_more insts i inst within))
