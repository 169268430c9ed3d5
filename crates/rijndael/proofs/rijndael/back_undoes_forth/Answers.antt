use Rattle.rijndael.specs.CipherLaws.{decrypt_encrypt, encrypt_decrypt, encrypt_block, decrypt_block}
use Rattle.rijndael.proofs.ScheduleLaws.{round_keys_bytes, key_is}
use Rattle.rijndael.proofs.rijndael.back_undoes_forth.Goals as goal

pub returns : goal.returns
returns c = record {
  back_forth = decrypt_encrypt;
  forth_back = encrypt_decrypt;
  forth_block = encrypt_block;
  back_block = decrypt_block;
  keys_bytes = round_keys_bytes;
  round_key_is = key_is;
}
