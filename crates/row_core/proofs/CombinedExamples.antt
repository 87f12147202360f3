-- Two small rows, combined by computation.
use Rattle.row_core.proofs.Common.{◌≡◌, pos, negsuc, [], ◌∷◌, refl, gcd_of, gcd_within, lowest, Var, Form, combined, combined_scale, combined_formed}

abbrev x : Var
x = record { kind = 1; index = record { region = 0; other = 0; slice = 0; tech = 0; fuel = 0; emission = 0; mode = 0; year = 0 } }

abbrev y : Var
y = record { kind = 2; index = record { region = 0; other = 0; slice = 0; tech = 0; fuel = 0; emission = 0; mode = 0; year = 0 } }

-- 2x + 3y to 5, and 4x - y = 3
abbrev row : Form
row = record { entries = (x, pos 2) ∷ (y, pos 3) ∷ []; right = pos 5 }

abbrev definition : Form
definition = record { entries = (x, pos 4) ∷ (y, negsuc 0) ∷ []; right = pos 3 }

-- twice the one less the other is 7y to 7, so y to 1, and the row was multiplied by 2/7
y_to_1 : combined row definition x ≡ record { entries = (y, pos 1) ∷ []; right = pos 1 }
unfolding gcd_of gcd_within
y_to_1 = refl

two_sevenths : combined_scale row definition x ≡ record { top = pos 2; bottom = pos 7 }
unfolding gcd_of gcd_within lowest
two_sevenths = refl

-- three numbers for x, y and the right side
nine_formed : combined_formed row definition x ≡ pos 4 ∷ pos 4 ∷ pos 0 ∷ pos 6 ∷ negsuc 0 ∷ pos 7 ∷ pos 10 ∷ pos 3 ∷ pos 7 ∷ []
unfolding gcd_of gcd_within
nine_formed = refl

-- a row without the variable stays
stays : combined (record { entries = (y, pos 3) ∷ []; right = pos 5 }) definition x ≡ record { entries = (y, pos 3) ∷ []; right = pos 5 }
unfolding gcd_of gcd_within
stays = refl
