pub mod RoundKeys
