-- What is written of a text has no byte of markup.
use Rattle.std.proofs.Common.{◌≡◌, ℕ, Bool, false, List, [], ◌∷◌, ap, ◌∙◌, refl, arith}
use Rattle.std.proofs.lemmas.List.Folds.{list_any-append}
use Rattle.std.proofs.lemmas.Bool.Decides.{nat_tests}
use Rattle.std.specs.List.{list_any}
use Rattle.std.specs.Prelude.{◌||◌}
use Rattle.result_pages.specs.Escaping.{escaped, escaped_byte, is_markup}

clean_byte : (b : ℕ) → list_any is_markup (escaped_byte b) ≡ false
clean_byte b = grind (arith, nat_tests)

pub clean : (text : List ℕ) → list_any is_markup (escaped text) ≡ false
clean [] = refl
clean (b ∷ bs) =
    list_any-append is_markup (escaped_byte b) (escaped bs)
    ∙ ap (λ (x : Bool). x || list_any is_markup (escaped bs)) (clean_byte b) ∙ clean bs
