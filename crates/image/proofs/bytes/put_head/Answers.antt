use Rattle.std.proofs.Common.{◌≡◌, ◌++◌, ◌∷◌, ℕ, [], length, ap, subst}
use Rattle.std.specs.Prelude.{OnOk}
use Rattle.image.specs.Images.{Version, magic, words_bytes, head_of}
use Rattle.image.specs.Views.{counts_of}
use Rattle.image.proofs.bytes.put_head.Goals as goal

pub returns-in-Some : goal.returns-in-Some
returns-in-Some c =
    let k = counts_of c.in-Some.c in
    let i = c.args.image.now in
    let By : Version
    → Type 0 = λ v. OnOk c.put_words-in-Some.result
    (c.put_words-in-Some.new.out.items ≡ c.args.out.now.items ++ words_bytes (head_of v (length i.code) i.entry (length i.bytes))) in
    let Of : ℕ → ℕ → ℕ
    → Type 0 = λ n e d. OnOk c.put_words-in-Some.result
    (c.put_words-in-Some.new.out.items ≡ c.args.out.now.items ++ words_bytes
    (magic ∷ 2 ∷ n ∷ e ∷ d ∷ k.same ∷ k.unclean ∷ k.differs ∷ k.full ∷ k.no_memory ∷ k.missed ∷ [])) in
    subst By c.in-Some.ensures.value
    (subst (λ n. Of n i.entry (length i.bytes)) (ap length c.code.ensures.value)
    (subst (λ e. Of (length c.code.result.now) e (length i.bytes)) c.entry-entry.ensures.value
    (subst (λ d. Of (length c.code.result.now) c.entry-entry.result d) (ap length c.bytes.ensures.value) c.put_words-in-Some.ensures)))
