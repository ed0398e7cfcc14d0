use Rattle.block.proofs.Laws as laws
use Rattle.block.proofs.field_laws.Goals as goal

pub returns : goal.returns
returns c =
    record {
      double_xor = laws.double_xor;
      double_is = laws.double_is;
      double_left = laws.product-double-left;
      double_right = laws.product-double;
      closed = laws.product_lt;
      unit = laws.product_one;
      commutes = laws.product_comm;
      associates = laws.product_assoc;
      xor_left = laws.product-xor-left;
      xor_right = laws.product-xor-right;
      square_of_sum = laws.square_xor;
      powers = laws.power-add;
    }
