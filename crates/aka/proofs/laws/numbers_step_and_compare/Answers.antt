use Rattle.aka.proofs.Stepping.{next_long, next_bytes, next_exceeds, last_number, not_itself, through, one_way, equal, larger_one, larger_first, larger_second}
use Rattle.aka.proofs.laws.numbers_step_and_compare.Goals as goal

pub returns : goal.returns
returns c =
    record {
      next_long = next_long;
      next_bytes = next_bytes;
      next_exceeds = next_exceeds;
      last = last_number;
      not_itself = not_itself;
      through = through;
      one_way = one_way;
      equal = equal;
      larger_one = larger_one;
      larger_first = larger_first;
      larger_second = larger_second;
    }
