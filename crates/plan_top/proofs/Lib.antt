mod Scripts
