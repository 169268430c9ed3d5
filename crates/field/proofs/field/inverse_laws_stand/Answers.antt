use Rattle.field.proofs.FieldLaws.{inverse_is, inverse_zero, un_s_box_s_box, s_box_un_s_box}
use Rattle.field.proofs.field.inverse_laws_stand.Goals as goal

pub returns : goal.returns
returns c = record { product_is_one = inverse_is; zero_kept = inverse_zero; un_s_box_s_box = un_s_box_s_box; s_box_un_s_box = s_box_un_s_box }
