pub mod SeqRuled
