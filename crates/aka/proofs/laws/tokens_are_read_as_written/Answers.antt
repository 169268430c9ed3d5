use Rattle.aka.proofs.ReadBack.{autn_long, autn_masked_is, autn_amf_is, autn_mac_is, autn_number_is, auts_long, auts_masked_is, auts_mac_is, auts_number_is, vector_long, vector_rand, vector_answers, vector_autn, answers_long, answers_res}
use Rattle.aka.proofs.laws.tokens_are_read_as_written.Goals as goal

pub returns : goal.returns
returns c =
    record {
      autn_long = autn_long;
      autn_masked_is = autn_masked_is;
      autn_amf_is = autn_amf_is;
      autn_mac_is = autn_mac_is;
      autn_number_is = autn_number_is;
      auts_long = auts_long;
      auts_masked_is = auts_masked_is;
      auts_mac_is = auts_mac_is;
      auts_number_is = auts_number_is;
      vector_long = vector_long;
      vector_rand = vector_rand;
      vector_answers = vector_answers;
      vector_autn = vector_autn;
      answers_long = answers_long;
      answers_res = answers_res;
    }
